-- What the answers at many points must be for a call of its own, by the way in which the cells are found.
use Rattle.std.specs.Prelude.{◌≡◌, List, ℕ, ◌<◌, Float}
use Rattle.rules.specs.Answers.{QueryAnswer}
use Rattle.rules.specs.declared.Axis.{Axis}
use Rattle.many_points.specs.ManyPoints.{point_of}
use Rattle.query_answer.specs.PointsAndModes.{AxesOf, QueryFits}
use Rattle.query_answer.specs.AnswerByWay.{AnswerAmong}
use Rattle.query_answer.specs.declared.ways.Way.{Way}

-- whatever points and modes these axes have: where a point can be answered, the way's answer there is that of the call for it
abbrev pub AnswersByWay : Way → ℕ → List Axis → List Float → List Float → List Float → ℕ → (ℕ → QueryAnswer) → Type 0
AnswersByWay way axes all knots tensor coordinates count answers =
    (points modes : List ℕ) → AxesOf axes points modes all
    → ((j : ℕ) → j < count → QueryFits axes points modes knots tensor (point_of axes coordinates j))
    → (j : ℕ) → j < count → (r : QueryAnswer) → AnswerAmong way axes points modes knots tensor (point_of axes coordinates j) r
    → r ≡ answers j
