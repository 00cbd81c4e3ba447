-- From `l` down to `k` the numbers of `SECOND` are those of the way back, each by the one above it; below `k` they are as they were,
-- and the z in hand is number `k`.
use Rattle.tensor_plan.proofs.SecondTurns.{BackTurn}
use Rattle.tensor_plan.proofs.cycle.second_back.Given as goal

abbrev pub invariant-loop-k : goal.invariant-loop-k
invariant-loop-k l = BackTurn l.initial.w l.w l.l l.z l.k
