-- What the direct query answers: its sizes and lengths refuse, or the division's answer is its own, word for word.
use mathlib.Core.Path.{◌≡◌, sym, ap, ◌∙◌}
use mathlib.Core.Logic.{◌≢◌}
use mathlib.Core.List.{List}
use Prim.Native.Nat.{ℕ}
use lib.ListN.{length}
use lib.Ieee.{Float}
use Rattle.rules.specs.Numbers.{at}
use Rattle.rules.specs.Sizes.{Grid, place_of}
use Rattle.rules.specs.Refusals.{some_number_refused, some_found_cell_refused, answer_refused}
use Rattle.rules.specs.Query.{even_cell_of, even_query}
use Rattle.rules.specs.Calls.{answer_of}
use Rattle.rules.specs.declared.Axis.{Axis}
use Rattle.rules.specs.Answers.{QueryAnswer}
use Rattle.grid.specs.GridOfCall.{grid, points_of}
use Rattle.grid_checks.specs.Check.{query_sizes_check}
use Rattle.query_answer.specs.PointsAndModes.{AxesOf, QueryFits}
use Rattle.query_answer.specs.AnswerByWay.{refused_with, refusal_by, AnswerBy}
use Rattle.query_answer.specs.declared.ways.Way.TheVariants.{Divided}
use Rattle.query_answer.proofs.Answering.{refused_is}
use Rattle.query_answer.proofs.Promised.{from_7, sizes_refuse}
use Rattle.query_direct.specs.DirectCalls.{direct_labels, direct_query_refusal, direct_query_answer, DirectQueryPromise}

-- sizes or lengths are refused
module _ (axes : ℕ) (all : List Axis) (x tensor coordinates : List Float) (points_in : List ℕ) (same : place_of points_in ≡ points_of all)
    (number : ℕ) (is : number ≡ query_sizes_check axes (place_of points_in) (length x) (length tensor) (length coordinates))
    (some : number ≢ 0) where
  abbrev given : Grid
  given = grid axes all x

  refusal_met : direct_query_refusal given tensor coordinates ≡ number
  unfolding direct_query_refusal
  refusal_met = sizes_refuse axes all x tensor coordinates points_in same number is some _

  pub sizes_answer : (r : QueryAnswer) → r ≡ refused_with number → DirectQueryPromise given tensor coordinates r
  unfolding direct_query_answer
  sizes_answer r refused =
      record {
        answer = refused
            ∙ refused_is (direct_query_refusal given tensor coordinates) number (even_query given tensor (at coordinates))
            (direct_labels given coordinates) refusal_met some;
      }

-- they are not: the division answers
module _ (axes : ℕ) (points_in modes_in : List ℕ) (x tensor coordinates : List Float)
    (fits : QueryFits axes points_in modes_in x tensor coordinates) (all : List Axis) (are : AxesOf axes points_in modes_in all)
    (r : QueryAnswer) (by : AnswerBy Divided (grid axes all x) tensor coordinates r) where
  abbrev g : Grid
  g = grid axes all x

  refusal_of : direct_query_refusal g tensor coordinates ≡ refusal_by Divided g tensor coordinates
  unfolding direct_query_refusal even_query
  refusal_of =
      from_7 axes points_in modes_in x tensor coordinates fits all are
      (some_number_refused coordinates) (some_found_cell_refused g (even_cell_of g (at coordinates)))
      (answer_refused (even_query g tensor (at coordinates)))

  pub division_answers : DirectQueryPromise g tensor coordinates r
  unfolding direct_query_answer even_query direct_labels
  division_answers =
      record {
        answer = by.answer
            ∙ ap (λ (refusal : ℕ). answer_of refusal (even_query g tensor (at coordinates)) (direct_labels g coordinates))
            (sym refusal_of);
      }
