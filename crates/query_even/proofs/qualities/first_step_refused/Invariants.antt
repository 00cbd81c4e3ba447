-- No step below `i` is refused, so the first that is, is the first from `i` on; the last knot has none.
use Prim.Native.Nat.{◌-◌}
use lib.ListN.{length}
use Rattle.rules.specs.Refusals.{step_refused}
use Rattle.axis_even.proofs.First.{Turn}
use Rattle.query_even.proofs.qualities.first_step_refused.Given as goal

abbrev pub invariant-loop-i : goal.invariant-loop-i
invariant-loop-i l = Turn (step_refused l.knots) 0 (length l.knots - 1) l.i
