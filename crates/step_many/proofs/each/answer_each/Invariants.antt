-- The points below `j` have their answers in their places, and `begin` is the place of the coordinates of point `j`, so every part lent
-- lies within them; knots and samples were looked at before the loop.
use mathlib.Core.Path.{◌≡◌}
use mathlib.Core.List.{List}
use lib.ListN.{length}
use lib.Ieee.{Float}
use Rattle.many_points.proofs.Turns.{Turn}
use Rattle.step_many.specs.StepByStep.{SteppedAmong}
use Rattle.step_many.proofs.each.answer_each.Given as goal

abbrev pub invariant-loop-j : goal.invariant-loop-j
invariant-loop-j l = Turn (λ (p : List Float). length p ≡ l.axes) (SteppedAmong l.axes l.points l.directions l.knots l.samples) l.axes l.coordinates l.count l.values l.indices
    l.refusals l.begin l.j
