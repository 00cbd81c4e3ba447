-- The knot slopes below `k` are at their places, the moments in hand are those of knot `k`, and of the rows only the slopes below `k`
-- are overwritten, which no later turn reads.
use Rattle.tensor_four_lanes.proofs.StoreTurns.{Turn}
use Rattle.tensor_four_lanes.proofs.sweeps.store_inner_slopes.Given as goal

abbrev pub invariant-loop-k : goal.invariant-loop-k
invariant-loop-k l = Turn l.initial.w l.w l.n l.places l.to l.step l.m l.k
