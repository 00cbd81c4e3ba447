-- From knot `from` down to knot `k` the moments stand, below `k` the block is as it was, and in hand is the four of knot `k`.
use Rattle.tensor_four_lanes.proofs.BackTurns.{Turn}
use Rattle.tensor_four_lanes.proofs.sweeps.back.Given as goal

abbrev pub invariant-loop-k : goal.invariant-loop-k
invariant-loop-k l = Turn l.initial.w l.w l.low l.from l.m l.k
