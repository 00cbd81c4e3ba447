-- The answer at each point by the search is that of the quick query, and by a division that of the direct one.
use mathlib.Core.Path.{◌≡◌}
use mathlib.Core.List.{List}
use Prim.Native.Nat.{ℕ, ◌<◌}
use lib.Ieee.{Float}
use Rattle.rules.specs.Sizes.{Grid}
use Rattle.rules.specs.Calls.{quick_query_answer}
use Rattle.rules.specs.declared.Axis.{Axis}
use Rattle.rules.specs.Answers.{QueryAnswer}
use Rattle.grid.specs.GridOfCall.{grid}
use Rattle.many_points.specs.ManyPoints.{point_of}
use Rattle.query_answer.specs.PointsAndModes.{AxesOf, QueryFits}
use Rattle.query_answer.specs.AnswerByWay.{AnswerAmong}
use Rattle.query_answer.specs.declared.ways.Way.TheVariants.{Searched, Divided}
use Rattle.query_quick.proofs.Answers.{search_answers}
use Rattle.query_direct.specs.DirectCalls.{direct_query_answer}
use Rattle.query_direct.proofs.Answers.{division_answers}

module _ (axes : ℕ) (points modes : List ℕ) (knots tensor coordinates : List Float) (all : List Axis) (are : AxesOf axes points modes all)
    (count : ℕ) (fits : (j : ℕ) → j < count → QueryFits axes points modes knots tensor (point_of axes coordinates j)) where
  abbrev g : Grid
  g = grid axes all knots

  pub each_quick :
      (j : ℕ) → j < count → (r : QueryAnswer) → AnswerAmong Searched axes points modes knots tensor (point_of axes coordinates j) r
      → r ≡ quick_query_answer g tensor (point_of axes coordinates j)
  each_quick j l r among = (search_answers axes points modes knots tensor _ (fits j l) all are r (among all are)).answer

  pub each_direct :
      (j : ℕ) → j < count → (r : QueryAnswer) → AnswerAmong Divided axes points modes knots tensor (point_of axes coordinates j) r
      → r ≡ direct_query_answer g tensor (point_of axes coordinates j)
  each_direct j l r among = (division_answers axes points modes knots tensor _ (fits j l) all are r (among all are)).answer
