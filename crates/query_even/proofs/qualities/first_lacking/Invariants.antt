-- No axis below `i` lacks the quality, and `begin` is where the knots of axis `i` begin; the first axis that does ends the walk with its
-- place.
use Rattle.query_even.proofs.LackingAxis.{Walk}
use Rattle.query_even.proofs.qualities.first_lacking.Given as goal

abbrev pub invariant-loop-i : goal.invariant-loop-i
invariant-loop-i l = Walk l.quality l.axes l.points l.knots l.begin l.i
