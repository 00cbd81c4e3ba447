-- The first `k` numbers of the lane are in the row of samples, and all behind that row is kept, the lane with it.
use Rattle.tensor_lane.proofs.Gathering.{Turn}
use Rattle.tensor_lane.proofs.gather.Given as goal

abbrev pub invariant-loop-k : goal.invariant-loop-k
invariant-loop-k l = Turn l.initial.w l.w l.n l.from l.step l.k
