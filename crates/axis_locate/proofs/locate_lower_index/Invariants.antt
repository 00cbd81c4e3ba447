-- A turn is one halving, or a look at the knot at high again once low and high have met; the measure is how many of 8 turns are left.
use Prim.Native.Nat.{◌-◌}
use lib.ListN.{length}
use Rattle.axis_locate.proofs.Halving.{Kept}
use Rattle.axis_locate.proofs.locate_lower_index.Given as goal

abbrev pub invariant-loop-halvings : goal.invariant-loop-halvings
invariant-loop-halvings l = Kept l.knots l.point (length l.knots - 1) l.low l.high l.width l.halvings

abbrev pub decreases-loop-halvings : goal.decreases-loop-halvings
decreases-loop-halvings l = 8 - l.halvings
