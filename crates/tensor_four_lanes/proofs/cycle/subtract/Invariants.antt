-- The rows below `k` are less by each lane's factor times z, and those from `k` on are as they were.
use Rattle.tensor_four_lanes.proofs.SubtractTurns.{Turn}
use Rattle.tensor_four_lanes.proofs.cycle.subtract.Given as goal

abbrev pub invariant-loop-k : goal.invariant-loop-k
invariant-loop-k l = Turn l.initial.w l.w l.n l.factor l.k
