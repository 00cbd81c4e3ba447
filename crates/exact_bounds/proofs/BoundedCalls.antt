-- What the calls answer lies within its bound of the exact spline: moments and the curve on one axis, and a query of the tensor that a
-- build left.
use mathlib.Core.Path.{◌≡◌, sym, ◌∙◌, ap, subst}
use mathlib.Core.Bool.{true, false, ◌||◌}
use mathlib.Core.List.{List}
use Prim.Native.Nat.{ℕ, ◌+◌, ◌-◌, ◌<◌, ◌≤◌}
use native.Mathlib.Omega.{arith}
use lib.Dec.{T, ltb}
use lib.ListN.{length}
use lib.Ieee.{Float, nan, binary64, fits}
use lib.Ieee.Scale.{finite}
use borrow.Author.Tests.{ltb-false, not-false}
use Rattle.rules.specs.Numbers.{at}
use Rattle.rules.specs.Sizes as Sizes
use Rattle.rules.specs.Locate.{locate}
use Rattle.rules.specs.Moments as RulesM
use Rattle.rules.specs.Curve as RulesC
use Rattle.rules.specs.Tensor as RulesT
use Rattle.rules.specs.Query as RulesQ
use Rattle.rules.specs.Outside.{mode_at, placed_on}
use Rattle.rules.specs.Calls.{MomentsPromise, curve_refusal, curve_answer, CurvePromise, build_refusal, BuildPromise, stored, answered, query_lengths_refused, query_refusal, query_answer, QueryPromise}
use Rattle.rules.specs.Refusals.{
  axes_refused,
  points_refused,
  some_points_refused,
  tensor_refused,
  length_refused,
  number_refused,
  some_number_refused,
  knots_refused,
}
use Rattle.rules.specs.declared.Condition.{Condition}
use Rattle.rules.specs.Answers.{CurveAnswer, QueryAnswer}
use Rattle.rules.proofs.Cases.{passed}
use Rattle.rules.proofs.Tables.{at_table}
use Rattle.base_numbers.proofs.Scan.{neither}
use Rattle.base_floats.specs.Place.{AllFit}
use Rattle.base_floats.proofs.Parts.{part_fits}
use Rattle.query_answer.proofs.Held.{placed_has, stands_then, point_finite}
use Rattle.exact_rationals.specs.Rationals.{ℚ, rationals}
use Rattle.exact_rationals.specs.Values.{value}
use Rattle.exact_spline.specs.Moments.{moment}
use Rattle.exact_spline.specs.Curve.{curve_in_cell}
use Rattle.exact_spline.specs.Tensor.{sample}
use Rattle.exact_spline.specs.Nested.{nested_splines}
use Rattle.exact_calls.specs.Exactly.{exact, values, exact_condition, exact_grid}
use Rattle.exact_calls.proofs.AcceptedAxis.{knots_rise}
use Rattle.exact_calls.proofs.AcceptedQuery.{finite_knots}
use Rattle.exact_calls.proofs.Located.{locate_inside}
use Rattle.exact_calls.proofs.TheCalls.{query_call_surface}
use Rattle.exact_rounding.specs.Near.{Near}
use Rattle.exact_bounds.specs.Bounds.{within, moment_bound, curve_bound, surface_bound, ConditionFits}
use Rattle.exact_bounds.proofs.TheBounds.{near_equal, moment_within, curve_within, surface_within}

-- ---- the moments of an axis, and the curve through them

module _
    (n : ℕ) (knots samples : List Float) (condition : Condition) (moments_out scratch moments_later scratch_later : List Float)
    (made : MomentsPromise n knots samples condition moments_out scratch 0 moments_later scratch_later)
    (knots_fit : AllFit knots) (samples_fit : AllFit samples) (ends_fit : ConditionFits condition) where
  moments_are : moments_later ≡ RulesM.moments knots (n - 1) condition samples
  moments_are =
      subst (λ r. moments_later ≡ stored r moments_out (RulesM.moments knots (n - 1) condition samples)) (sym made.answer)
      made.output

  moment_there : (k : ℕ) → k < n → at moments_later k ≡ RulesM.moment knots samples (n - 1) condition k
  unfolding RulesM.moments
  moment_there k inside =
      ap (λ l. at l k) moments_are ∙ at_table (n - 1 + 1) (RulesM.moment knots samples (n - 1) condition) k nan (omega (arith, inside))

  pub moments_call_within : (k : ℕ) → k < n → (e : ℚ) → moment_bound knots samples (n - 1) condition k ≡ within e
      → Near (value (at moments_later k)) (moment rationals (exact knots) (exact samples) (n - 1) (exact_condition condition) k) e
  moments_call_within k inside e b =
      near_equal (at moments_later k) _ _ e (moment_there k inside)
      (moment_within knots samples (n - 1) condition knots_fit samples_fit ends_fit k e b)

  module _
      (point : Float) (point_fits : T (fits binary64 point)) (given_back : CurveAnswer)
      (asked : CurvePromise n knots samples moments_later point given_back) (accepted : given_back.refusal ≡ 0) where
    curve_not_refused : curve_refusal n knots samples moments_later point ≡ 0
    unfolding curve_answer
    curve_not_refused = sym (ap (λ (a : CurveAnswer). a.refusal) asked.answer) ∙ accepted

    curve_value : given_back.value
        ≡ RulesC.curve_in_cell knots samples (RulesM.moments knots (n - 1) condition samples) (locate knots (n - 1) point) point
    unfolding curve_answer RulesC.curve
    curve_value =
        ap (λ (a : CurveAnswer). a.value) asked.answer
        ∙ ap (λ r. answered r (RulesC.curve knots (n - 1) samples moments_later point)) curve_not_refused
        ∙ ap (λ m. RulesC.curve_in_cell knots samples m (locate knots (n - 1) point) point) moments_are

    cell_there : locate knots (n - 1) point < n - 1
    unfolding curve_refusal
    cell_there =
        let two = passed (points_refused n) 1 _ curve_not_refused in
        let four = passed
        (length_refused (length knots) n || length_refused (length samples) n || length_refused (length moments_later) n) 3 _ two.1 in
        let seven = passed (some_number_refused knots || some_number_refused samples || number_refused point) 6 _ four.1 in
        let eight = passed (knots_refused knots n) 7 _ seven.1 in
        let more : 2 ≤ n = ltb-false n 2 (neither (ltb n 2) (ltb 256 n) two.0).0 in
        let whole : n ≡ n - 1 + 1 = omega (arith, more) in
        let some : 0 < n - 1 = omega (arith, more) in
        let rise : knots_refused knots (n - 1 + 1) ≡ false = subst (λ k. knots_refused knots k ≡ false) whole eight.0 in
        let there = locate_inside knots (n - 1) point some (finite_knots knots (n - 1) some rise)
        (λ k l. knots_rise knots (n - 1 + 1) rise k (omega (arith, l)))
        (not-false _ (neither (some_number_refused knots || some_number_refused samples) (number_refused point) seven.0).1) in
        omega (arith, there)

    pub curve_call_within : (e : ℚ) → curve_bound knots samples (n - 1) condition (locate knots (n - 1) point) point ≡ within e
        → Near (value given_back.value)
        (curve_in_cell rationals (exact knots) (exact samples)
        (moment rationals (exact knots) (exact samples) (n - 1) (exact_condition condition)) (locate knots (n - 1) point) (value point)) e
    curve_call_within e b =
        near_equal given_back.value _ _ e curve_value
        (curve_within knots samples (n - 1) condition knots_fit samples_fit ends_fit (locate knots (n - 1) point) cell_there point
        point_fits e b)

-- ---- a query of a built surface, at finite coordinates, lies within its bound of the spline of splines

module _
    (g : Sizes.Grid) (samples tensor_out scratch : List Float) (accepted : build_refusal g samples tensor_out scratch ≡ 0)
    (knots_fit : AllFit g.flat_knots) (samples_fit : AllFit samples) (ends_fit : (i : ℕ) → ConditionFits (Sizes.condition g i)) where
  pub query_within :
      (point : ℕ → Float) → ((i : ℕ) → T (fits binary64 (point i))) → ((i : ℕ) → i < g.axes → finite (point i) ≡ true)
      → (e : ℚ) → surface_bound g samples (RulesQ.cell_of g point) (placed_on g point) ≡ within e
      → Near (value (RulesQ.query_in_modes g (RulesT.tensor g samples) point))
      (nested_splines rationals g.axes (exact_grid g) (sample rationals (exact_grid g) (values samples)) (RulesQ.cell_of g point)
      (λ i. value (placed_on g point i))) e
  unfolding RulesQ.query_in_modes
  query_within point point_fits finite_point e b =
      subst (λ z. Near (value (RulesQ.value_in g (RulesT.tensor g samples) (RulesQ.cell_of g point) (placed_on g point))) z e)
      (query_call_surface g samples tensor_out scratch accepted point finite_point)
      (surface_within g samples (RulesQ.cell_of g point) (placed_on g point) knots_fit samples_fit ends_fit
      (λ i. placed_has (Sizes.knots g i) (point i) (λ (x : Float). T (fits binary64 x)) (knot_fits i 0)
      (knot_fits i (length (Sizes.knots g i) - 1)) (point_fits i) (mode_at g i)) e b)
    where
      knot_fits : (i k : ℕ) → T (fits binary64 (at (Sizes.knots g i) k))
      knot_fits i k = part_fits g.flat_knots (Sizes.sum_below (Sizes.points g) i) (Sizes.points g i) knots_fit k

-- the calls themselves: what a query answers, of the tensor that a build left, neither of them refused
module _
    (g : Sizes.Grid) (samples tensor_out scratch tensor_later scratch_later : List Float)
    (built : BuildPromise g samples tensor_out scratch 0 tensor_later scratch_later)
    (coordinates : List Float) (given_back : QueryAnswer) (asked : QueryPromise g tensor_later coordinates given_back)
    (accepted : given_back.refusal ≡ 0)
    (knots_fit : AllFit g.flat_knots) (samples_fit : AllFit samples) (coordinates_fit : AllFit coordinates)
    (ends_fit : (i : ℕ) → ConditionFits (Sizes.condition g i)) where
  query_not_refused : query_refusal g tensor_later coordinates ≡ 0
  unfolding query_answer
  query_not_refused = sym (ap (λ (a : QueryAnswer). a.refusal) asked.answer) ∙ accepted

  tensor_is : tensor_later ≡ RulesT.tensor g samples
  tensor_is = subst (λ r. tensor_later ≡ stored r tensor_out (RulesT.tensor g samples)) (sym built.answer) built.output

  query_value : given_back.value ≡ RulesQ.query_in_modes g (RulesT.tensor g samples) (at coordinates)
  unfolding query_answer
  query_value =
      ap (λ (a : QueryAnswer). a.value) asked.answer
      ∙ ap (λ r. answered r (RulesQ.query_in_modes g tensor_later (at coordinates))) query_not_refused
      ∙ ap (λ t. RulesQ.query_in_modes g t (at coordinates)) tensor_is

  coordinates_finite : (i : ℕ) → i < g.axes → finite (at coordinates i) ≡ true
  unfolding query_refusal
  coordinates_finite i used =
      let one = passed (axes_refused g) 0 _ query_not_refused in
      let two = passed (some_points_refused g) 1 _ one.1 in
      let three = passed (tensor_refused g) 2 _ two.1 in
      let four = passed (query_lengths_refused g tensor_later coordinates) 3 _ three.1 in
      let seven = passed (some_number_refused g.flat_knots || some_number_refused coordinates) 6 _ four.1 in
      let both = neither (some_number_refused g.flat_knots) (some_number_refused coordinates) seven.0 in
      point_finite g coordinates both.1 (stands_then g tensor_later coordinates one.0 two.0 four.0 both.0) i used

  pub calls_within : (e : ℚ)
      → surface_bound g samples (RulesQ.cell_of g (at coordinates)) (placed_on g (at coordinates)) ≡ within e
      → Near (value given_back.value)
      (nested_splines rationals g.axes (exact_grid g) (sample rationals (exact_grid g) (values samples))
      (RulesQ.cell_of g (at coordinates)) (λ i. value (placed_on g (at coordinates) i))) e
  calls_within e b =
      near_equal given_back.value _ _ e query_value
      (query_within g samples tensor_out scratch (sym built.answer) knots_fit samples_fit ends_fit (at coordinates) coordinates_fit
      coordinates_finite e b)
