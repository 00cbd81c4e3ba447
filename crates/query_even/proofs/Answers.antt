-- What the query of even axes answers: its sizes and lengths, its knots and coordinates, the axes, the modes and the value decide, in this
-- order.
use native.Mathlib.Omega.{arith}
use mathlib.Core.Path.{◌≡◌, refl, sym, ap, ◌∙◌}
use mathlib.Core.Logic.{◌≢◌}
use mathlib.Core.Bool.{Bool, true, false, cond}
use mathlib.Core.List.{List}
use Prim.Native.Nat.{ℕ, ◌<◌}
use lib.ListN.{length}
use lib.Ieee.{Float}
use Rattle.rules.specs.Numbers.{at}
use Rattle.rules.specs.Sizes.{Grid, points, place_of}
use Rattle.rules.specs.Refusals.{some_number_refused, some_knots_refused, answer_refused}
use Rattle.rules.specs.Outside.{some_outside_refused}
use Rattle.rules.specs.Even.{some_uneven_refused, uneven_axis, uneven_interval}
use Rattle.rules.specs.Query.{even_query}
use Rattle.rules.specs.Calls.{or_else, answer_of}
use Rattle.rules.specs.EvenCalls.{nothing_told, even_labels, even_query_refusal, even_query_answer, EvenQueryPromise}
use Rattle.rules.specs.declared.Axis.{Axis}
use Rattle.std.specs.Prelude.{Err}
use Rattle.rules.specs.declared.EvenRefusal.TheVariants.{Uneven}
use Rattle.rules.specs.Answers.{EvenAnswer, QueryAnswer, even_told}
use Rattle.rules.proofs.Refused.{or_else_met, any_ext}
use Rattle.rules.proofs.Sums.{sum_ext}
use Rattle.rules.proofs.EvenIsQuery.{answers_as_query}
use Rattle.base_numbers.proofs.Scan.{neither, any_never}
use Rattle.grid.specs.GridOfCall.{grid, points_of}
use Rattle.grid_checks.specs.Check.{
  query_sizes_rows,
  query_sizes_check,
  knots_of_points_refused,
  knots_and_coordinates_rows,
  knots_and_coordinates_check,
}
use Rattle.grid_checks.proofs.Rows.{rows_then, rows_below_10, none_applies}
use Rattle.query_answer.specs.PointsAndModes.{AxesOf, QueryFits}
use Rattle.query_answer.specs.AnswerByWay.{refused_with, refusal_by, AnswerBy}
use Rattle.query_answer.specs.declared.ways.Way.TheVariants.{Direct}
use Rattle.query_answer.proofs.Answering.{refused_is}
use Rattle.query_answer.proofs.Promised.{past_4, sizes_refuse}
use Rattle.query_even.specs.Qualities.{lacking_axis, lacking_place}
use Rattle.query_even.specs.Lacking.{LackIs, KnotsPass}
use Rattle.query_even.specs.declared.qualities.Quality.TheVariants.{Even}
use Rattle.query_even.specs.declared.qualities.Lack.{Lack}

-- ---- another refusal than 21

module _ (g : Grid) (tensor coordinates : List Float) (number : ℕ) (met : even_query_refusal g tensor coordinates ≡ number)
    (some : number ≢ 0) (low : number < 10) where
  refused_by : (r : EvenAnswer) (answer : QueryAnswer) → answer ≡ refused_with number → r ≡ nothing_told answer
      → EvenQueryPromise g tensor coordinates r
  unfolding even_query_answer
  refused_by r answer refused is = record {
    answer = is
        ∙ ap nothing_told
        (refused
        ∙ refused_is (even_query_refusal g tensor coordinates) number (even_query g tensor (at coordinates))
        (even_labels g tensor coordinates) met some)
        ∙ sym (answers_as_query (even_query_refusal g tensor coordinates) _ _ _ _ (λ z. omega (arith, met, z)));
  }

-- ---- sizes or lengths are refused

module _ (axes : ℕ) (all : List Axis) (x tensor coordinates : List Float) (points_in : List ℕ) (same : place_of points_in ≡ points_of all)
    (number : ℕ) (is : number ≡ query_sizes_check axes (place_of points_in) (length x) (length tensor) (length coordinates))
    (some : number ≢ 0) where
  sizes_met : even_query_refusal (grid axes all x) tensor coordinates ≡ number
  unfolding even_query_refusal
  sizes_met = sizes_refuse axes all x tensor coordinates points_in same number is some _

  sizes_low : number < 10
  unfolding query_sizes_check
  sizes_low = rw is (rows_below_10 (query_sizes_rows axes (place_of points_in) (length x) (length tensor) (length coordinates)) tt)

  pub sizes_answer : (r : EvenAnswer) (answer : QueryAnswer) → answer ≡ refused_with number → r ≡ nothing_told answer
      → EvenQueryPromise (grid axes all x) tensor coordinates r
  sizes_answer = refused_by (grid axes all x) tensor coordinates number sizes_met some sizes_low

-- ---- they are not

outcome_low : (numbers outside refused : Bool) {refusal : ℕ} → refusal ≡ cond numbers 7 (cond outside 18 (cond refused 10 0))
    → refusal ≢ 21
outcome_low true outside refused is z = omega (arith, is, z)
outcome_low false true refused is z = omega (arith, is, z)
outcome_low false false true is z = omega (arith, is, z)
outcome_low false false false is z = omega (arith, is, z)

module _ (axes : ℕ) (points_in modes_in : List ℕ) (x tensor coordinates : List Float)
    (fits : QueryFits axes points_in modes_in x tensor coordinates) (all : List Axis) (are : AxesOf axes points_in modes_in all) where
  abbrev g : Grid
  g = grid axes all x

  abbrev refusal : ℕ
  refusal = even_query_refusal g tensor coordinates

  abbrev outside_refused : Bool
  outside_refused = some_outside_refused g (at coordinates)

  abbrev value_refused : Bool
  value_refused = answer_refused (even_query g tensor (at coordinates))

  -- what is looked at after the knots and the coordinates
  abbrev later : Bool → ℕ
  later uneven = cond uneven 21 (cond outside_refused 18 (cond value_refused 10 0))

  same_knots : knots_of_points_refused axes (place_of points_in) x ≡ some_knots_refused g
  same_knots = any_ext _ _ axes λ i l.
      rw (are.points_are i l, sum_ext (points g) (place_of points_in) i (λ k h. are.points_are k (omega arith))) refl

  refusal_is : refusal ≡ or_else (knots_and_coordinates_check axes (place_of points_in) x coordinates) (later (some_uneven_refused g))
  unfolding even_query_refusal knots_and_coordinates_check
  refusal_is =
      past_4 axes points_in modes_in x tensor coordinates fits all are _
      ∙ rw (← same_knots)
      (rows_then (knots_and_coordinates_rows axes (place_of points_in) x coordinates) (later (some_uneven_refused g)) tt)

  module _ (check : ℕ) (checked : check ≡ knots_and_coordinates_check axes (place_of points_in) x coordinates) where
    check_low : check < 10
    unfolding knots_and_coordinates_check
    check_low = rw checked (rows_below_10 (knots_and_coordinates_rows axes (place_of points_in) x coordinates) tt)

    -- knots or coordinates are refused
    pub check_refuses : check ≢ 0 → (r : EvenAnswer) (answer : QueryAnswer) → answer ≡ refused_with check → r ≡ nothing_told answer
        → EvenQueryPromise g tensor coordinates r
    check_refuses some = refused_by g tensor coordinates check (refusal_is ∙ rw (← checked) (or_else_met check _ some)) some check_low

    module _ (none : check ≡ 0) where
      after_check : refusal ≡ later (some_uneven_refused g)
      after_check = refusal_is ∙ rw (← checked, none) refl

      -- an axis is not even
      pub axis_refuses : (uneven : Lack) → LackIs Even g uneven
          → EvenQueryPromise g tensor coordinates (even_told (Err (Uneven uneven.axis uneven.place)))
      unfolding even_query_answer uneven_axis uneven_interval lacking_axis lacking_place
      axis_refuses uneven tells =
          let met : refusal ≡ 21 = after_check ∙ ap later tells.some in
          record { answer = rw (tells.axis, tells.place, met) refl }

      -- every axis is: the knots pass
      pub knots_pass : some_uneven_refused g ≡ false → KnotsPass g
      unfolding knots_and_coordinates_check
      knots_pass even =
          let rows = none_applies (knots_and_coordinates_rows axes (place_of points_in) x coordinates) tt (sym checked ∙ none) in
          record {
            finite = (neither (some_number_refused x) (some_number_refused coordinates) rows.0).0;
            rise = sym same_knots ∙ rows.1.0;
            even = even;
          }

  -- where the knots pass the direct cell answers
  module _ (pass : KnotsPass g) where
    after_knots : refusal ≡ cond (some_number_refused coordinates) 7 (cond outside_refused 18 (cond value_refused 10 0))
    unfolding even_query_refusal
    after_knots =
        past_4 axes points_in modes_in x tensor coordinates fits all are _ ∙ rw (pass.finite, pass.rise, pass.even) refl

    by_direct : refusal_by Direct g tensor coordinates ≡ refusal
    unfolding even_query
    by_direct = rw (any_never (λ j. false) axes (λ j l. refl)) (sym after_knots)

    pub direct_answers : (r : EvenAnswer) (answer : QueryAnswer) → AnswerBy Direct g tensor coordinates answer → r ≡ nothing_told answer
        → EvenQueryPromise g tensor coordinates r
    unfolding even_query_answer even_query even_labels
    direct_answers r answer by is = record {
      answer = is
          ∙ ap nothing_told
          (by.answer
          ∙ ap (λ (number : ℕ). answer_of number (even_query g tensor (at coordinates)) (even_labels g tensor coordinates))
          by_direct)
          ∙ sym
          (answers_as_query refusal _ _ _ _
          (outcome_low (some_number_refused coordinates) outside_refused value_refused after_knots));
    }
