-- A step of the walk that is not refused leads one cursor further, and none leads past the one behind the curve's last number.
use mathlib.Core.Path.{◌≡◌, ap, ◌∙◌, sym}
use mathlib.Core.List.{List}
use Prim.Native.Nat.{ℕ, ◌+◌, ◌≤◌}
use Rattle.device_cursor.specs.DeviceCurve.{last_cursor, next_refusal, NextAnswer, next_answer, NextPromise}
use Rattle.device_cursor.specs.declared.Cursor.{Cursor}
use Rattle.device_cursor.proofs.Steps.{passed}

module _ (curve : List ℕ) (cursor : Cursor) (given : NextAnswer) (told : NextPromise curve cursor given) (none : given.refusal ≡ 0) where
  not_refused : next_refusal curve cursor.n ≡ 0
  unfolding next_answer
  not_refused = sym (ap (λ (a : NextAnswer). a.refusal) told.answer) ∙ none

  pub further : given.cursor.n ≡ cursor.n + 1
  unfolding next_answer
  further = ap (λ (a : NextAnswer). a.cursor.n) told.answer ∙ rw not_refused

  pub not_past : cursor.n ≤ last_cursor curve
  not_past = (passed curve cursor.n not_refused).1
