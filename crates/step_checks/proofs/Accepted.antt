-- A check of steps that gives no number: what is then known of all that the call was given.
use mathlib.Core.Path.{◌≡◌, refl, sym, ap, ◌∙◌}
use mathlib.Core.Bool.{false, ◌||◌}
use mathlib.Core.List.{List}
use Prim.Native.Nat.{ℕ, ◌-◌, ◌*◌, ◌^◌, ◌≤◌}
use native.Mathlib.Omega.{arith}
use lib.ListN.{length, take, drop, length-drop}
use lib.Seq.{length-take-le}
use lib.Ieee.{Float}
use lib.Ieee.Scale.{finite}
use borrow.Author.Tests.{ltb-false, le-ltb, not-false}
use Rattle.rules.specs.Numbers.{at}
use Rattle.rules.specs.Sizes.{most_in_a_tensor, Grid, points, sum_below, product_below}
use Rattle.rules.specs.Refusals.{points_refused, number_refused, some_number_refused, knots_refused}
use Rattle.base_numbers.proofs.Scan.{neither, any_at}
use Rattle.grid.specs.GridOfCall.{InRange}
use Rattle.grid.proofs.Products.{sum_within}
use Rattle.grid_checks.specs.Check.{knots_of_points_refused}
use Rattle.grid_checks.proofs.Rows.{NoneApplies, none_applies, axes_few, in_range, exact, exact_3}
use Rattle.grid_checks.proofs.FiniteKnots.{axis_finite}
use Rattle.axis_locate.proofs.Accepted.{accepted_rise}
use Rattle.step_checks.specs.StepChecks.{
  point_rows,
  point_check,
  exact_rows,
  exact_check,
  stepped_sizes_rows,
  stepped_sizes_check,
  stepped_rows,
  stepped_check,
}
use Rattle.step_checks.specs.StepsChecked.{PointGiven, ExactGiven, AxesGiven, SteppedGiven}

-- ---- the calls on one axis

module _ (n : ℕ) (x : List Float) where
  known : (point : Float) → points_refused n ≡ false → length x ≡ n → some_number_refused x ≡ false → number_refused point ≡ false
      → knots_refused x n ≡ false → PointGiven n x point
  known point range knots_exact knots_finite point_finite rise =
      let two = neither _ _ range in
      record {
        some_points = ltb-false _ _ two.0;
        few_points = ltb-false _ _ two.1;
        rising = accepted_rise x n knots_exact knots_finite rise;
        point_finite = not-false (finite point) point_finite;
      }

  pub point_given : (point : Float) → point_check n x point ≡ 0 → PointGiven n x point
  unfolding point_check
  point_given point e =
      let none = none_applies (point_rows n x point) tt e in
      let numbers = neither (some_number_refused x) (number_refused point) none.1.1.0 in
      known point none.0 (exact (length x) n none.1.0) numbers.0 numbers.1 none.1.1.1.0

  pub exact_given : (lower : ℕ) (point : Float) → exact_check n x lower point ≡ 0 → ExactGiven n x lower point
  unfolding exact_check
  exact_given lower point e =
      let none = none_applies (exact_rows n x lower point) tt e in
      let numbers = neither (some_number_refused x) (number_refused point) none.1.1.1.0 in
      let given = known point none.0 (exact (length x) n none.1.0) numbers.0 numbers.1 none.1.1.1.1.0 in
      record {
        point_given = given;
        next_knot = let low = ltb-false (n - 2) lower none.1.1.0 in let some = given.some_points in omega arith;
      }

-- ---- the stepped surface

module _ (axes : ℕ) (n : ℕ → ℕ) (x coordinates : List Float) where
  -- the knots of axis i
  abbrev part : ℕ → List Float
  part i = take (n i) (drop (sum_below n i) x)

  pub axes_given :
      InRange axes n → product_below n axes * 2 ^ axes ≤ most_in_a_tensor → length x ≡ sum_below n axes → length coordinates ≡ axes
      → knots_of_points_refused axes n x ≡ false → some_number_refused coordinates ≡ false → AxesGiven axes n x coordinates
  axes_given range small knots_exact count rise coordinates_finite = record {
    in_range = range;
    small = small;
    knots_exact = knots_exact;
    coordinates_exact = count;
    on_axis = λ i l.
        let fine : points_refused (n i) ≡ false =
        rw (le-ltb (n i) 2 (range.some_points i l), le-ltb 256 (n i) (range.few_points i l)) refl in
        let long : length (part i) ≡ n i =
        length-take-le (n i) (drop (sum_below n i) x) (rw length-drop (omega (arith, knots_exact, sum_within n i axes l))) in
        let its = any_at (λ j. knots_refused (part j) (n j)) axes rise i l in
        known (n i) (part i) (at coordinates i) fine long
        (axis_finite (part i) (n i) {refused = false} fine long (sym (ap (knots_refused (part i)) long ∙ its)) refl)
        (any_at (λ k. number_refused (at coordinates k)) (length coordinates) coordinates_finite i (omega arith))
        its;
  }

-- what the rows of sizes and lengths leave where none of them applies
module _ (axes : ℕ) (n : ℕ → ℕ) (knots samples coordinates : ℕ) where
  abbrev SizesKnown : Type 0
  SizesKnown =
      InRange axes n × (product_below n axes * 2 ^ axes ≤ most_in_a_tensor) × (knots ≡ sum_below n axes)
      × (samples ≡ product_below n axes) × (coordinates ≡ axes)

  sizes_known : NoneApplies (stepped_sizes_rows axes n knots samples coordinates) → SizesKnown
  sizes_known rows =
      let few = axes_few {axes = axes} rows.0 in
      let lengths = exact_3 knots (sum_below n axes) samples (product_below n axes) coordinates axes rows.1.1.1.0 in (
        in_range few.0 few.1 rows.1.0,
        ltb-false most_in_a_tensor (product_below n axes * 2 ^ axes) rows.1.1.0,
        lengths.0,
        lengths.1,
        lengths.2,
      )

  pub sizes_accepted : stepped_sizes_check axes n knots samples coordinates ≡ 0 → SizesKnown
  unfolding stepped_sizes_check
  sizes_accepted none = sizes_known (none_applies (stepped_sizes_rows axes n knots samples coordinates) tt none)

pub stepped_given :
    (g : Grid) (samples coordinates : List Float) → stepped_check g samples coordinates ≡ 0 → SteppedGiven g samples coordinates
unfolding stepped_check
stepped_given g samples coordinates e =
    let none = none_applies (stepped_rows g samples coordinates) tt e in
    let later = none.1.1.1.1 in
    let sizes =
    sizes_known g.axes (points g) (length g.flat_knots) (length samples) (length coordinates)
    (none.0, (none.1.0, (none.1.1.0, (none.1.1.1.0, tt)))) in
    record {
      axes_given =
          axes_given g.axes (points g) g.flat_knots coordinates sizes.0 sizes.1 sizes.2 sizes.4 later.1.0
          (neither (some_number_refused g.flat_knots || some_number_refused samples) (some_number_refused coordinates) later.0).1;
      samples_exact = sizes.3;
    }
