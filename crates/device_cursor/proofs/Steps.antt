-- One step of the cursor, for each way that it ends.
use mathlib.Core.Path.{◌≡◌, refl}
use mathlib.Core.Bool.{Bool, true, false, cond}
use mathlib.Core.List.{List}
use Prim.Native.Nat.{ℕ, zero, suc, ◌+◌, ◌/◌, ◌%◌, ◌<◌, ◌≤◌}
use native.Mathlib.Omega.{arith}
use lib.Dec.{ltb}
use lib.IntN.{ℤ, pos}
use borrow.Author.Tests.{lt-ltb, le-ltb, ltb-false}
use Rattle.device_cell.specs.DeviceCell.{cell_number}
use Rattle.device_cell.proofs.Answers.{no_value}
use Rattle.device_cursor.specs.DeviceCurve.{
  cell_at,
  curve_refusal,
  last_number,
  last_cursor,
  cursor_number,
  refused_first,
  next_refusal,
  moved,
  next_answer,
}
use Rattle.device_cursor.specs.declared.Cursor.{Cursor}

module _ (curve : List ℕ) (n : ℕ) where
  -- ---- the number at a cursor

  pub number_before : n < last_cursor curve → cell_number (cell_at curve (n / 256)) (n % 256) ≡ cursor_number curve n
  unfolding cursor_number
  number_before h = rw (lt-ltb n (last_cursor curve) h)

  pub number_last : last_cursor curve ≤ n → last_number curve ≡ cursor_number curve n
  unfolding cursor_number
  number_last h = rw (le-ltb n (last_cursor curve) h)

  -- ---- the refusal

  pub curve_refused : (r : ℕ) → r ≡ curve_refusal curve → (r ≡ 0 → ⊥) → r ≡ next_refusal curve n
  unfolding next_refusal
  curve_refused r e some = rw (← e) (first r some)
    where
      first : (r : ℕ) → (r ≡ 0 → ⊥) → r ≡ refused_first r (cond (ltb (last_cursor curve) n) 20 0)
      first zero some = absurd (some refl)
      first (suc r) some = refl

  pub past_the_end : curve_refusal curve ≡ 0 → last_cursor curve < n → 20 ≡ next_refusal curve n
  unfolding next_refusal
  past_the_end none h = rw (none, lt-ltb (last_cursor curve) n h)

  pub not_refused : curve_refusal curve ≡ 0 → n ≤ last_cursor curve → 0 ≡ next_refusal curve n
  unfolding next_refusal
  not_refused none h = rw (none, le-ltb (last_cursor curve) n h)

  -- what is known where the step is not refused
  pub passed : next_refusal curve n ≡ 0 → (curve_refusal curve ≡ 0) × (n ≤ last_cursor curve)
  unfolding next_refusal
  passed e = outcome (curve_refusal curve) (ltb (last_cursor curve) n) refl e
    where
      outcome : (r : ℕ) (past : Bool) → ltb (last_cursor curve) n ≡ past → refused_first r (cond past 20 0) ≡ 0
          → (r ≡ 0) × (n ≤ last_cursor curve)
      outcome zero true t e = let y : ⊥ = omega arith in absurd y
      outcome zero false t e = (refl, ltb-false (last_cursor curve) n t)
      outcome (suc r) past t e = let y : ⊥ = omega arith in absurd y

-- ---- the answer

not_moved : (r n : ℕ) → (r ≡ 0 → ⊥) → n ≡ moved r n
not_moved zero n some = absurd (some refl)
not_moved (suc r) n some = refl

module _ (curve : List ℕ) (cursor : Cursor) where
  pub step_refused : (r : ℕ) → r ≡ next_refusal curve cursor.n → (r ≡ 0 → ⊥)
      → record { refusal = r; value = pos 0; cursor = cursor } ≡ next_answer curve cursor
  unfolding next_answer
  step_refused r e some =
      rw (← e, ← no_value r (cursor_number curve cursor.n) some, ← not_moved r cursor.n some)

  pub step_given : (v : ℤ) → next_refusal curve cursor.n ≡ 0 → v ≡ cursor_number curve cursor.n
      → record { refusal = 0; value = v; cursor = record { n = cursor.n + 1 } } ≡ next_answer curve cursor
  unfolding next_answer
  step_given v none e = rw (none, e)
