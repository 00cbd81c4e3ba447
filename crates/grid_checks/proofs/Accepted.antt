-- A check that gives no number: what is then known of all that a call was given.
use mathlib.Core.Path.{◌≡◌}
use mathlib.Core.Bool.{Bool, true, false, not, ◌||◌}
use mathlib.Core.List.{List}
use Prim.Native.Nat.{ℕ, ◌+◌, ◌-◌, ◌<◌}
use native.Mathlib.Omega.{arith}
use lib.Dec.{leb}
use lib.ListN.{length}
use lib.Ieee.{Float, lt}
use lib.Ieee.Scale.{finite}
use borrow.Author.Tests.{ltb-false, leb-false, not-false}
use Rattle.rules.specs.Numbers.{at}
use Rattle.rules.specs.Steps.{h}
use Rattle.rules.specs.Sizes.{
  most_in_a_tensor,
  scratch_of_rows,
  Grid,
  points,
  condition,
  knots,
  knots_length,
  samples_length,
  tensor_length,
  scratch_length,
  Place,
}
use Rattle.rules.specs.Refusals.{
  axes_refused,
  points_refused,
  some_points_refused,
  tensor_refused,
  scratch_refused,
  number_refused,
  some_number_refused,
  ends_refused,
  some_ends_refused,
  step_refused,
  knots_refused,
  some_knots_refused,
  fewness_refused,
  some_fewness_refused,
}
use Rattle.rules.specs.declared.Condition.{Condition}
use Rattle.base_numbers.proofs.Scan.{neither, any_at}
use Rattle.grid_checks.specs.Checked.{
  AxisGiven,
  MomentsGiven,
  CurveGiven,
  SlopesGiven,
  GridGiven,
  SolveGiven,
  BuildGiven,
  ChangeGiven,
}
use Rattle.grid_checks.specs.Check.{
  moments_rows,
  curve_rows,
  slopes_rows,
  build_rows,
  change_rows,
  moments_check,
  curve_check,
  slopes_check,
  build_check,
  change_check,
}
use Rattle.grid_checks.proofs.Rows.{none_applies, axes_few, in_range, exact_2, exact_3, exact_4}

neither_3 : (a b c : Bool) → (a || b || c) ≡ false → (a ≡ false) × (b ≡ false) × (c ≡ false)
neither_3 a b c e = let three = neither (a || b) c e in let two = neither a b three.0 in (two.0, two.1, three.1)

-- ---- the calls on one axis

module _ (n : ℕ) (x y : List Float) where
  axis_given : points_refused n ≡ false → length x ≡ n → length y ≡ n → some_number_refused x ≡ false → some_number_refused y ≡ false
      → knots_refused x n ≡ false → AxisGiven n x y
  axis_given range knots_exact samples_exact knots_finite samples_finite knots_rise =
      let two = neither _ _ range in
      record {
        some_points = ltb-false _ _ two.0;
        few_points = ltb-false _ _ two.1;
        knots_exact = knots_exact;
        samples_exact = samples_exact;
        knots_finite = knots_finite;
        samples_finite = samples_finite;
        knots_rise = knots_rise;
      }

  pub moments_given : (ends : Condition) (moments_length scratch_given : ℕ) → moments_check n x y ends moments_length scratch_given ≡ 0
      → MomentsGiven n x y ends moments_length scratch_given
  unfolding moments_check
  moments_given ends moments_length scratch_given e =
      let none = none_applies (moments_rows n x y ends moments_length scratch_given) tt e in
      let lengths = exact_3 (length x) n (length y) n moments_length n none.1.0 in
      let numbers = neither_3 (some_number_refused x) (ends_refused ends) (some_number_refused y) none.1.1.1.0 in
      record {
        axis = axis_given none.0 lengths.0 lengths.1 numbers.0 numbers.2 none.1.1.1.1.0;
        moments_exact = lengths.2;
        scratch_enough = ltb-false scratch_given scratch_of_rows none.1.1.0;
        ends_finite = numbers.1;
        enough_points = none.1.1.1.1.1.0;
      }

  pub curve_given : (moments_length : ℕ) (point : Float) → curve_check n x y moments_length point ≡ 0
      → CurveGiven n x y moments_length point
  unfolding curve_check
  curve_given moments_length point e =
      let none = none_applies (curve_rows n x y moments_length point) tt e in
      let lengths = exact_3 (length x) n (length y) n moments_length n none.1.0 in
      let numbers = neither_3 (some_number_refused x) (some_number_refused y) (number_refused point) none.1.1.0 in
      record {
        axis = axis_given none.0 lengths.0 lengths.1 numbers.0 numbers.1 none.1.1.1.0;
        moments_exact = lengths.2;
        point_finite = numbers.2;
      }

  pub slopes_given : (moments_length slopes_length : ℕ) → slopes_check n x y moments_length slopes_length ≡ 0
      → SlopesGiven n x y moments_length slopes_length
  unfolding slopes_check
  slopes_given moments_length slopes_length e =
      let none = none_applies (slopes_rows n x y moments_length slopes_length) tt e in
      let lengths = exact_4 (length x) n (length y) n moments_length n slopes_length n none.1.0 in
      let numbers = neither (some_number_refused x) (some_number_refused y) none.1.1.0 in
      record {
        axis = axis_given none.0 lengths.0 lengths.1 numbers.0 numbers.1 none.1.1.1.0;
        moments_exact = lengths.2;
        slopes_exact = lengths.3;
      }

-- ---- the calls on a grid

module _ (g : Grid) where
  pub grid_known : (tensor_given : ℕ) → axes_refused g ≡ false → some_points_refused g ≡ false → tensor_refused g ≡ false
      → length g.flat_knots ≡ knots_length g → tensor_given ≡ tensor_length g → some_number_refused g.flat_knots ≡ false
      → some_knots_refused g ≡ false → GridGiven g tensor_given
  grid_known tensor_given few fine small knots_exact tensor_exact knots_finite rise =
      let count = axes_few {axes = g.axes} few in
      record {
        in_range = in_range count.0 count.1 fine;
        small = ltb-false most_in_a_tensor (tensor_length g) small;
        knots_exact = knots_exact;
        tensor_exact = tensor_exact;
        knots_finite = knots_finite;
        knots_rise = any_at (λ i. knots_refused (knots g i) (points g i)) g.axes rise;
      }

  solve_known : (scratch_given : ℕ) → scratch_refused scratch_given (scratch_length g) ≡ false → some_ends_refused g ≡ false
      → some_fewness_refused g ≡ false → SolveGiven g scratch_given
  solve_known scratch_given scratch ends fewness = record {
    scratch_enough = ltb-false scratch_given (scratch_length g) scratch;
    ends_finite = any_at (λ i. ends_refused (condition g i)) g.axes ends;
    enough_points = any_at (λ i. fewness_refused (condition g i) (points g i)) g.axes fewness;
  }

  pub build_given : (samples : List Float) (tensor_given scratch_given : ℕ) → build_check g samples tensor_given scratch_given ≡ 0
      → BuildGiven g samples tensor_given scratch_given
  unfolding build_check
  build_given samples tensor_given scratch_given e =
      let none = none_applies (build_rows g samples tensor_given scratch_given) tt e in
      let later = none.1.1.1 in
      let lengths =
      exact_3 (length g.flat_knots) (knots_length g) (length samples) (samples_length g) tensor_given (tensor_length g) later.0 in
      let numbers = neither_3 (some_number_refused g.flat_knots) (some_ends_refused g) (some_number_refused samples) later.1.1.0 in
      record {
        grid_given =
            grid_known tensor_given none.0 none.1.0 none.1.1.0 lengths.0 lengths.2 numbers.0 later.1.1.1.0;
        solve_given = solve_known scratch_given later.1.0 numbers.1 later.1.1.1.1.0;
        samples_exact = lengths.1;
        samples_finite = numbers.2;
      }

  pub change_given : (tensor : List Float) (scratch_given : ℕ) (changed : Place) (v : Float)
      → change_check g tensor scratch_given changed v ≡ 0 → ChangeGiven g tensor scratch_given changed v
  unfolding change_check
  change_given tensor scratch_given changed v e =
      let none = none_applies (change_rows g tensor scratch_given changed v) tt e in
      let later = none.1.1.1 in
      let lengths = exact_2 (length g.flat_knots) (knots_length g) (length tensor) (tensor_length g) later.0 in
      let four =
      neither (some_number_refused g.flat_knots || some_ends_refused g || number_refused v) (some_number_refused tensor)
      later.1.1.1.0 in
      let numbers = neither_3 (some_number_refused g.flat_knots) (some_ends_refused g) (number_refused v) four.0 in
      record {
        grid_given =
            grid_known (length tensor) none.0 none.1.0 none.1.1.0 lengths.0 lengths.1 numbers.0 later.1.1.1.1.0;
        solve_given = solve_known scratch_given later.1.0 numbers.1 later.1.1.1.1.1.0;
        on_the_grid = λ i l. leb-false (points g i) (changed i) (any_at (λ j. leb (points g j) (changed j)) g.axes later.1.1.0 i l);
        sample_finite = numbers.2;
        tensor_finite = four.1;
      }

-- ---- what the knots of an axis then have

-- every knot lies below the next, and the step between them is finite
pub knots_step : (x : List Float) (n : ℕ) → knots_refused x n ≡ false → (k : ℕ) → k + 1 < n
    → (lt (at x k) (at x (k + 1)) ≡ true) × (finite (h x k) ≡ true)
unfolding step_refused
knots_step x n e k l =
    let two = neither (not (lt (at x k) (at x (k + 1)))) (not (finite (h x k))) (any_at (step_refused x) (n - 1) e k (omega arith)) in
    (not-false _ two.0, not-false _ two.1)
