-- The same of the calls themselves: where `moments` is not refused, there is one spline through the exact values of what it was given; and
-- where a build is not refused, its grid has the spline of splines in every cell and at every query of finite coordinates.
use mathlib.Core.Path.{◌≡◌, subst}
use mathlib.Core.Bool.{◌||◌, true, false}
use mathlib.Core.List.{List}
use Prim.Native.Nat.{ℕ, ◌+◌, ◌-◌, ◌<◌, ◌≤◌}
use native.Mathlib.Omega.{arith}
use lib.Dec.{ltb, eqb}
use lib.ListN.{length}
use lib.Ieee.{Float}
use lib.Ieee.Scale.{finite}
use borrow.Author.Tests.{ltb-false, eqb-true, not-false}
use Rattle.rules.specs.Sizes as Sizes
use Rattle.rules.specs.Outside.{placed_on}
use Rattle.rules.specs.Query.{cell_of}
use Rattle.rules.specs.Refusals.{
  axes_refused,
  points_refused,
  some_points_refused,
  tensor_refused,
  length_refused,
  scratch_refused,
  some_number_refused,
  ends_refused,
  some_ends_refused,
  knots_refused,
  some_knots_refused,
  fewness_refused,
  some_fewness_refused,
}
use Rattle.rules.specs.Calls.{moments_refusal, build_refusal}
use Rattle.rules.specs.declared.Condition.{Condition}
use Rattle.rules.proofs.Cases.{passed}
use Rattle.base_numbers.proofs.Scan.{neither}
use Rattle.exact_rationals.specs.Rationals.{ℚ, rationals}
use Rattle.exact_rationals.specs.Values.{value}
use Rattle.exact_spline.specs.Moments.{moment}
use Rattle.exact_spline.specs.Spline.{IsSplineUnder}
use Rattle.exact_spline.specs.Tensor.{sample}
use Rattle.exact_spline.specs.Query.{value_from}
use Rattle.exact_spline.specs.Nested.{nested_splines}
use Rattle.exact_calls.specs.Exactly.{exact, values, exact_condition, exact_grid}
use Rattle.exact_calls.proofs.AcceptedAxis.{accepted_spline, accepted_spline_only}
use Rattle.exact_calls.proofs.AcceptedGrid.{Inside, accepted_surface}
use Rattle.exact_calls.proofs.AcceptedQuery.{accepted_query}

-- ---- the curve's moments

module _
    (n : ℕ) (knots samples : List Float) (condition : Condition) (moments_out scratch : List Float)
    (accepted : moments_refusal n knots samples condition moments_out scratch ≡ 0) where
  -- what is left after 2, after 4, 5 and 7
  record Passed : Type 0 where
    points : points_refused n ≡ false
    steps : knots_refused knots n ≡ false
    few : fewness_refused condition n ≡ false

  all_passed : Passed
  unfolding moments_refusal
  all_passed =
      let two = passed (points_refused n) 1 _ accepted in
      let four = passed
      (length_refused (length knots) n || length_refused (length samples) n || length_refused (length moments_out) n) 3 _ two.1 in
      let five = passed (scratch_refused (length scratch) Sizes.scratch_of_rows) 4 _ four.1 in
      let seven = passed (some_number_refused knots || ends_refused condition || some_number_refused samples) 6 _ five.1 in
      let eight = passed (knots_refused knots n) 7 _ seven.1 in
      let nine = passed (fewness_refused condition n) 8 _ eight.1 in
      record { points = two.0; steps = eight.0; few = nine.0 }

  whole : n ≡ n - 1 + 1
  whole = omega (arith, ltb-false n 2 (neither (ltb n 2) (ltb 256 n) all_passed.points).0)

  pub moments_call_spline :
      IsSplineUnder rationals (exact knots) (exact samples) (n - 1)
      (moment rationals (exact knots) (exact samples) (n - 1) (exact_condition condition)) (exact_condition condition)
  moments_call_spline =
      accepted_spline knots samples (n - 1) condition
      (subst (λ k. knots_refused knots k ≡ false) whole all_passed.steps)
      (subst (λ k. fewness_refused condition k ≡ false) whole all_passed.few)

  pub moments_call_only :
      (m : ℕ → ℚ) → IsSplineUnder rationals (exact knots) (exact samples) (n - 1) m (exact_condition condition)
      → (k : ℕ) → k ≤ n - 1 → m k ≡ moment rationals (exact knots) (exact samples) (n - 1) (exact_condition condition) k
  moments_call_only =
      accepted_spline_only knots samples (n - 1) condition
      (subst (λ k. knots_refused knots k ≡ false) whole all_passed.steps)
      (subst (λ k. fewness_refused condition k ≡ false) whole all_passed.few)

-- ---- the build, and queries of its tensor

module _
    (g : Sizes.Grid) (samples tensor_out scratch : List Float) (accepted : build_refusal g samples tensor_out scratch ≡ 0) where
  record BuildPassed : Type 0 where
    points : some_points_refused g ≡ false
    knots_given : length g.flat_knots ≡ Sizes.knots_length g
    steps : some_knots_refused g ≡ false
    few : some_fewness_refused g ≡ false

  build_passed : BuildPassed
  unfolding build_refusal
  build_passed =
      let one = passed (axes_refused g) 0 _ accepted in
      let two = passed (some_points_refused g) 1 _ one.1 in
      let three = passed (tensor_refused g) 2 _ two.1 in
      let four = passed
      (length_refused (length g.flat_knots) (Sizes.knots_length g) || length_refused (length samples) (Sizes.samples_length g)
      || length_refused (length tensor_out) (Sizes.tensor_length g)) 3 _ three.1 in
      let five = passed (scratch_refused (length scratch) (Sizes.scratch_length g)) 4 _ four.1 in
      let seven = passed (some_number_refused g.flat_knots || some_ends_refused g || some_number_refused samples) 6 _ five.1 in
      let eight = passed (some_knots_refused g) 7 _ seven.1 in
      let nine = passed (some_fewness_refused g) 8 _ eight.1 in
      record {
        points = two.0;
        knots_given =
            eqb-true (length g.flat_knots) (Sizes.knots_length g)
            (not-false (eqb (length g.flat_knots) (Sizes.knots_length g))
            (neither (length_refused (length g.flat_knots) (Sizes.knots_length g))
            (length_refused (length samples) (Sizes.samples_length g))
            (neither
            (length_refused (length g.flat_knots) (Sizes.knots_length g) || length_refused (length samples) (Sizes.samples_length g))
            (length_refused (length tensor_out) (Sizes.tensor_length g)) four.0).0).0);
        steps = eight.0;
        few = nine.0;
      }

  pub build_call_surface :
      (cells : Sizes.Place) → Inside g cells → (point : ℕ → ℚ)
      → value_from rationals (exact_grid g) (sample rationals (exact_grid g) (values samples)) cells point
      ≡ nested_splines rationals g.axes (exact_grid g) (sample rationals (exact_grid g) (values samples)) cells point
  build_call_surface = accepted_surface g build_passed.steps build_passed.few samples

  pub query_call_surface :
      (point : ℕ → Float) → ((i : ℕ) → i < g.axes → finite (point i) ≡ true)
      → value_from rationals (exact_grid g) (sample rationals (exact_grid g) (values samples)) (cell_of g point)
      (λ i. value (placed_on g point i))
      ≡ nested_splines rationals g.axes (exact_grid g) (sample rationals (exact_grid g) (values samples)) (cell_of g point)
      (λ i. value (placed_on g point i))
  query_call_surface point seven =
      accepted_query g build_passed.points build_passed.knots_given build_passed.steps build_passed.few point seven samples
