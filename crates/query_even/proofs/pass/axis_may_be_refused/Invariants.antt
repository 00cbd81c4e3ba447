-- While the flag is down no knot before knot `i` fails to rise and no interval before interval `i` fails (`Rises`); on an axis of finite
-- length neither 8 nor 21 applies then.
use mathlib.Core.Path.{◌≡◌}
use mathlib.Core.Bool.{false}
use Rattle.query_even.proofs.Passing.{Rises}
use Rattle.query_even.proofs.pass.axis_may_be_refused.Given as goal

abbrev pub invariant-loop-i : goal.invariant-loop-i
invariant-loop-i l = l.found ≡ false → Rises l.knots l.i
