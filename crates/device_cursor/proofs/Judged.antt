-- A curve judged whole: what the loop over its cells knows, and what is known of a curve that is not refused.
use mathlib.Core.Path.{◌≡◌, refl, ◌∙◌}
use mathlib.Core.Bool.{Bool, true, false, not, ◌&&◌, ◌||◌, cond}
use mathlib.Core.List.{List}
use mathlib.Core.Logic.{⊎_elim}
use Prim.Native.Nat.{ℕ, zero, suc, ◌+◌, ◌*◌, ◌%◌, ◌<◌, ◌≤◌}
use native.Mathlib.Nat.{not-suc-le-zero, le_of_suc-le-suc, eq-or-lt_of_le}
use native.Mathlib.Numerals.{add-one}
use native.Mathlib.Omega.{arith}
use lib.Dec.{eqb, leb}
use lib.IntN.{pos, ◌-ℤ◌}
use lib.ListN.{length}
use borrow.Author.Tests.{lt-ltb, le-ltb, leb-true, eqb-true}
use Rattle.base_integers.proofs.Tests.{both}
use Rattle.device_cell.specs.DeviceCell.{value_in_range, slope_in_range, cell_in_range, number_of}
use Rattle.device_cell.specs.declared.Refusal.{Refusal}
use Rattle.device_cell.proofs.Given.{number_some}
use Rattle.device_cursor.proofs.Flags.{flags_of_two, flags_of_four}
use Rattle.device_cursor.specs.DeviceCurve.{signed, number_at, cell_at, cells, whole_cells, all_in_range, curve_refusal}

-- ---- 32 bits with a sign

pub low : (n : ℕ) → n < 2147483648 → pos n ≡ signed n
unfolding signed
low n h = rw (lt-ltb n 2147483648 h)

pub high : (n : ℕ) → 2147483648 ≤ n → pos n -ℤ pos 4294967296 ≡ signed n
unfolding signed
high n h = rw (le-ltb n 2147483648 h)

-- ---- the length

pub record Whole (n : ℕ) : Type 0 where
  pub whole : n % 16 ≡ 0
  pub least : 16 ≤ n
  pub most : n ≤ 4080

pub whole_known : (n : ℕ) → whole_cells n ≡ true → Whole n
unfolding whole_cells
whole_known n e =
    let first = both (eqb (n % 16) 0) (leb 16 n && leb n 4080) e in
    let second = both (leb 16 n) (leb n 4080) first.1 in
    record { whole = eqb-true (n % 16) 0 first.0; least = leb-true 16 n second.0; most = leb-true n 4080 second.1 }

-- ---- the loop over the cells

module _ (curve : List ℕ) where
  pub cell_flags : (i : ℕ) (p0 p1 d0 d1 : Bool) → p0 ≡ not (value_in_range (number_at curve (16 * i)))
      → p1 ≡ not (value_in_range (number_at curve (16 * i + 4))) → d0 ≡ not (slope_in_range (number_at curve (16 * i + 8)))
      → d1 ≡ not (slope_in_range (number_at curve (16 * i + 12))) → (p0 || p1 || d0 || d1) ≡ not (cell_in_range (cell_at curve i))
  unfolding cell_in_range
  cell_flags i p0 p1 d0 d1 e f g h =
      rw (e, f, g, h)
      (flags_of_four (value_in_range (number_at curve (16 * i))) (value_in_range (number_at curve (16 * i + 4)))
      (slope_in_range (number_at curve (16 * i + 8))) (slope_in_range (number_at curve (16 * i + 12))))

  pub flag_next : (i : ℕ) (refused here : Bool) → refused ≡ not (all_in_range curve i) → here ≡ not (cell_in_range (cell_at curve i))
      → (refused || here) ≡ not (all_in_range curve (i + 1))
  unfolding all_in_range
  flag_next i refused here e f = rw (add-one, e, f) (flags_of_two (all_in_range curve i) (cell_in_range (cell_at curve i)))

  range_at : (n : ℕ) → all_in_range curve n ≡ true → (i : ℕ) → i < n → cell_in_range (cell_at curve i) ≡ true
  unfolding all_in_range
  range_at zero all i l = absurd (not-suc-le-zero l)
  range_at (suc n) all i l =
      let known = both (all_in_range curve n) (cell_in_range (cell_at curve n)) all in
      ⊎_elim (λ e. rw e known.1) (λ lt. range_at n known.0 i lt) (eq-or-lt_of_le (le_of_suc-le-suc l))

  -- ---- the refusal, for each way that judging ends

  pub broken_length : whole_cells (length curve) ≡ false → 20 ≡ curve_refusal curve
  unfolding curve_refusal
  broken_length e = rw e

  pub out_of_range : whole_cells (length curve) ≡ true → all_in_range curve (cells curve) ≡ false → 19 ≡ curve_refusal curve
  unfolding curve_refusal
  out_of_range e f = rw (e, f)

  pub good : whole_cells (length curve) ≡ true → all_in_range curve (cells curve) ≡ true → 0 ≡ curve_refusal curve
  unfolding curve_refusal
  good e f = rw (e, f)

  -- what is met has a number
  pub met_some : (met : Refusal) → number_of met ≡ curve_refusal curve → curve_refusal curve ≡ 0 → ⊥
  met_some met e none = number_some met (e ∙ none)

  -- ---- a curve that is not refused

  tests : curve_refusal curve ≡ 0 → (whole_cells (length curve) ≡ true) × (all_in_range curve (cells curve) ≡ true)
  unfolding curve_refusal
  tests e = outcome (whole_cells (length curve)) (all_in_range curve (cells curve)) e
    where
      outcome : (w a : Bool) → ◌≡◌ {A = ℕ} (cond w (cond a 0 19) 20) 0 → (w ≡ true) × (a ≡ true)
      outcome true true e = (refl, refl)
      outcome true false e = let y : ⊥ = omega arith in absurd y
      outcome false a e = let y : ⊥ = omega arith in absurd y

  pub length_known : curve_refusal curve ≡ 0 → Whole (length curve)
  length_known e = whole_known (length curve) (tests e).0

  pub cell_known : curve_refusal curve ≡ 0 → (i : ℕ) → i < cells curve → cell_in_range (cell_at curve i) ≡ true
  cell_known e i l = range_at (cells curve) (tests e).1 i l
