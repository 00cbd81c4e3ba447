-- The walk over the axes: the indices below `i` are the rules' steps, those from `i` on 0, `number` is that of their place, and `begin` is
-- where the knots of axis `i` begin.
use Rattle.rules.specs.Sizes.{place_of}
use Rattle.step_surface.proofs.Stepping.{Turn}
use Rattle.step_surface.proofs.steps_on_axes.Given as goal

abbrev pub invariant-loop-i : goal.invariant-loop-i
invariant-loop-i l = Turn l.axes (place_of l.points) l.knots l.directions l.coordinates l.indices l.number l.begin l.i
