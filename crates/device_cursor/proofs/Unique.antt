-- Each promise of the cursor has one answer.
use mathlib.Core.Path.{◌≡◌, sym, ◌∙◌}
use mathlib.Core.List.{List}
use Prim.Native.Nat.{ℕ}
use Rattle.device_cursor.specs.DeviceCurve.{NextAnswer, StartPromise, NextPromise}
use Rattle.device_cursor.specs.declared.Cursor.{Cursor}

pub start_unique : (c c' : Cursor) → StartPromise c → StartPromise c' → c ≡ c'
start_unique c c' p q = p.answer ∙ sym q.answer

pub next_unique : (curve : List ℕ) (cursor : Cursor) (a a' : NextAnswer) → NextPromise curve cursor a → NextPromise curve cursor a' → a ≡ a'
next_unique curve cursor a a' p q = p.answer ∙ sym q.answer
