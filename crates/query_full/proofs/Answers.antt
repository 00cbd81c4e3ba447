-- What the query answers: its sizes and lengths refuse, or the walk finds the cell of the rules on knots that it lets pass, so the value in
-- that cell and its labels are theirs.
use native.Mathlib.Omega.{arith}
use mathlib.Core.Path.{◌≡◌, refl, ap, ◌∙◌}
use mathlib.Core.Logic.{◌≢◌}
use mathlib.Core.Bool.{Bool, true, false, cond, ◌||◌}
use mathlib.Core.List.{List}
use Prim.Native.Nat.{ℕ}
use lib.ListN.{length}
use lib.Ieee.{Float}
use borrow.Author.Tests.{not-false}
use Rattle.rules.specs.Numbers.{at}
use Rattle.rules.specs.Sizes.{Grid, points, knots, sum_below, place_of}
use Rattle.rules.specs.Refusals.{number_refused, some_number_refused, knots_refused, some_knots_refused, answer_refused}
use Rattle.rules.specs.Outside.{placed_on, some_outside_refused}
use Rattle.rules.specs.Query.{cell_of, quick_cell_of, query_in_modes}
use Rattle.rules.specs.Calls.{labels_of, answer_of, labels, query_refusal, query_answer, QueryPromise}
use Rattle.rules.specs.declared.Axis.{Axis}
use Rattle.rules.specs.Answers.{QueryAnswer}
use Rattle.rules.proofs.Places.{One}
use Rattle.rules.proofs.Refused.{any_ext}
use Rattle.rules.proofs.Cells.{value_in_ext, labels_ext}
use Rattle.base_numbers.proofs.Scan.{any_at}
use Rattle.grid.specs.GridOfCall.{grid, points_of, InRange}
use Rattle.grid.proofs.Knots.{knots_of_axis}
use Rattle.grid_checks.specs.Check.{query_sizes_check}
use Rattle.grid_checks.proofs.FiniteKnots.{grid_finite}
use Rattle.query_answer.specs.PointsAndModes.{AxesOf, QueryFits}
use Rattle.query_answer.specs.AnswerByWay.{refused_with, some_knots_refuse, value_by, refusal_by, AnswerBy}
use Rattle.query_answer.specs.declared.ways.Way.TheVariants.{Walked}
use Rattle.query_answer.proofs.Accepted.{rising_on_axis}
use Rattle.query_answer.proofs.Answering.{refused_is, seven_or_eight}
use Rattle.query_answer.proofs.Promised.{knots_exact, from_7, sizes_refuse, same_refused}

-- a test beside one that applies, and beside one that does not
or_true : (a : Bool) → (a || true) ≡ true
or_true true = refl
or_true false = refl

or_false : (a : Bool) → (a || false) ≡ a
or_false true = refl
or_false false = refl

-- sizes or lengths are refused
module _ (axes : ℕ) (all : List Axis) (x tensor coordinates : List Float) (points_in : List ℕ) (same : place_of points_in ≡ points_of all)
    (number : ℕ) (is : number ≡ query_sizes_check axes (place_of points_in) (length x) (length tensor) (length coordinates))
    (some : number ≢ 0) where
  refusal_met : query_refusal (grid axes all x) tensor coordinates ≡ number
  unfolding query_refusal
  refusal_met = sizes_refuse axes all x tensor coordinates points_in same number is some _

  pub sizes_answer : (r : QueryAnswer) → r ≡ refused_with number → QueryPromise (grid axes all x) tensor coordinates r
  unfolding query_answer
  sizes_answer r refused =
      record {
        answer = refused
            ∙ refused_is (query_refusal (grid axes all x) tensor coordinates) number
            (query_in_modes (grid axes all x) tensor (at coordinates)) (labels (grid axes all x) coordinates) refusal_met some;
      }

-- they are not: the walk answers
module _ (axes : ℕ) (points_in modes_in : List ℕ) (x tensor coordinates : List Float)
    (fits : QueryFits axes points_in modes_in x tensor coordinates) (all : List Axis) (are : AxesOf axes points_in modes_in all)
    (r : QueryAnswer) (by : AnswerBy Walked (grid axes all x) tensor coordinates r) where
  abbrev g : Grid
  g = grid axes all x

  exact : length x ≡ sum_below (points g) axes
  exact = knots_exact axes points_in modes_in x tensor coordinates fits all are

  range : InRange axes (points g)
  range = record {
    some_axes = fits.search_fits.in_range.some_axes;
    few_axes = fits.search_fits.in_range.few_axes;
    some_points = λ i l. rw (are.points_are i l) (fits.search_fits.in_range.some_points i l);
    few_points = λ i l. rw (are.points_are i l) (fits.search_fits.in_range.few_points i l);
  }

  -- the walk looks at as many knots as there are points
  walked : some_knots_refuse Walked g tensor coordinates ≡ some_knots_refused g
  walked = any_ext _ _ axes (λ i l. ap (knots_refused (knots g i)) (knots_of_axis g exact i l))

  abbrev outside : Bool
  outside = some_outside_refused g (at coordinates)

  -- what is left to the value, by the cells of the walk and by those of the rules
  abbrev rest : Float → ℕ
  rest value = cond outside 18 (cond (answer_refused value) 10 0)

  refusal_of : query_refusal g tensor coordinates
      ≡ cond (some_number_refused x || some_number_refused coordinates) 7
      (cond (some_knots_refused g) 8 (rest (query_in_modes g tensor (at coordinates))))
  unfolding query_refusal
  refusal_of =
      from_7 axes points_in modes_in x tensor coordinates fits all are
      (some_number_refused x || some_number_refused coordinates) (some_knots_refused g)
      (answer_refused (query_in_modes g tensor (at coordinates)))

  -- where neither a coordinate nor the knots are refused, the cells are those of the rules
  module _ (numbers : some_number_refused coordinates ≡ false) (rise : some_knots_refused g ≡ false) where
    knots_finite : some_number_refused x ≡ false
    knots_finite = grid_finite axes all x range exact refl rise

    one_cell : One axes (quick_cell_of g (at coordinates)) (cell_of g (at coordinates))
    one_cell i l =
        by.rising refl i l
        (rising_on_axis g exact knots_finite i l (any_at (λ j. knots_refused (knots g j) (points g j)) axes rise i l))
        (not-false _
        (any_at (λ j. number_refused (at coordinates j)) (length coordinates) numbers i
        (omega (arith, fits.search_fits.coordinates_exact))))

    same_value : value_by Walked g tensor coordinates ≡ query_in_modes g tensor (at coordinates)
    unfolding query_in_modes
    same_value = value_in_ext g tensor _ _ (placed_on g (at coordinates)) one_cell

    same_labels : labels_of g (quick_cell_of g (at coordinates)) ≡ labels g coordinates
    unfolding labels
    same_labels = labels_ext g _ _ one_cell

  -- the answers by what is refused
  promised :
      (number refused : Bool) → some_number_refused coordinates ≡ number → some_knots_refused g ≡ refused
      → answer_of (refusal_by Walked g tensor coordinates) (value_by Walked g tensor coordinates)
      (labels_of g (quick_cell_of g (at coordinates)))
      ≡ answer_of (query_refusal g tensor coordinates) (query_in_modes g tensor (at coordinates)) (labels g coordinates)
  promised true refused n k =
      let own : refusal_by Walked g tensor coordinates ≡ 7 = rw n refl in
      let its : query_refusal g tensor coordinates ≡ 7 = refusal_of ∙ rw (n, or_true (some_number_refused x)) refl in
      rw (own, its) refl
  promised false true n k =
      let own : refusal_by Walked g tensor coordinates ≡ cond (some_number_refused x) 7 8 = rw (n, walked, k) refl in
      let its : query_refusal g tensor coordinates ≡ cond (some_number_refused x) 7 8 =
      refusal_of ∙ rw (n, or_false (some_number_refused x), k) refl in
      rw (own, its) (same_refused _ (seven_or_eight (some_number_refused x)) _ _ _ _)
  promised false false n k =
      let own : refusal_by Walked g tensor coordinates ≡ rest (value_by Walked g tensor coordinates) = rw (n, walked, k) refl in
      let its : query_refusal g tensor coordinates ≡ rest (query_in_modes g tensor (at coordinates)) =
      refusal_of ∙ rw (n, knots_finite n k, k) refl in
      rw (own, its, same_value n k, same_labels n k) refl

  pub walk_answers : QueryPromise g tensor coordinates r
  unfolding query_answer
  walk_answers = record { answer = by.answer ∙ promised _ _ refl refl }
