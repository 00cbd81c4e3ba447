-- Behind `first` and up to knot `k` both blocks have their rows, each by the row before it; in hand are the slopes and the row of knot
-- `k` and the numbers at the knot behind it.
use Rattle.tensor_four_lanes.proofs.ForwardTurns.{Turn}
use Rattle.tensor_four_lanes.proofs.sweeps.forward.Given as goal

abbrev pub invariant-loop-k : goal.invariant-loop-k
invariant-loop-k l = Turn l.initial.w l.w l.first l.stop l.places l.step l.y l.s l.d l.k
