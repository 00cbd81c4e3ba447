-- The slopes before knot `i` are in the row, and the flag tells whether one of them is not finite; the last knot is taken
-- after the loop.
use Rattle.axis_curve.proofs.SlopeTurns.{Turn}
use Rattle.axis_curve.proofs.some_slope_refused.Given as goal

abbrev pub invariant-loop-i : goal.invariant-loop-i
invariant-loop-i l = Turn l.x l.y l.m l.initial.row l.row l.refused l.i
