-- The points below `j` have their answers in their places, and `begin` is the place of the coordinates of point `j`, so every part lent
-- lies within them.
use Rattle.query_answer.specs.PointsAndModes.{QueryFits}
use Rattle.query_answer.specs.AnswerByWay.{AnswerAmong}
use Rattle.many_points.proofs.Turns.{Turn}
use Rattle.query_many.proofs.each.answer_each.Given as goal

abbrev pub invariant-loop-j : goal.invariant-loop-j
invariant-loop-j l = Turn (QueryFits l.axes l.points l.modes l.knots l.tensor) (AnswerAmong l.way l.axes l.points l.modes l.knots l.tensor) l.axes l.coordinates l.count l.values l.labels
    l.refusals l.begin l.j
