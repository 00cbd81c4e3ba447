-- The steps from `from` to knot `k` have their four slopes, in hand are the lanes' numbers at knot `k`, and no other place is touched.
use Rattle.tensor_four_lanes.proofs.SlopeTurns.{Turn}
use Rattle.tensor_four_lanes.proofs.sweeps.slopes.Given as goal

abbrev pub invariant-loop-k : goal.invariant-loop-k
invariant-loop-k l = Turn l.initial.w l.w l.from l.stop l.places l.step l.y l.k
