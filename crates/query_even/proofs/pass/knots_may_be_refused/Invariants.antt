-- No axis below `i` may be refused by 8 or by 21, and `begin` is where the knots of axis `i` begin (`Passing`); an axis that may be ends
-- the walk.
use Rattle.query_even.proofs.Passing.{Passing}
use Rattle.query_even.proofs.pass.knots_may_be_refused.Given as goal

abbrev pub invariant-loop-i : goal.invariant-loop-i
invariant-loop-i l = Passing l.axes l.points l.knots l.begin l.i
