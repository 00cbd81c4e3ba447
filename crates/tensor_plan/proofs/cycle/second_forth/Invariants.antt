-- Once the z in hand is stored at row `k`, the rows from 0 to `k` hold the way forth of the second solve, each by the one before it.
use Rattle.tensor_plan.proofs.SecondTurns.{ForthTurn}
use Rattle.tensor_plan.proofs.cycle.second_forth.Given as goal

abbrev pub invariant-loop-k : goal.invariant-loop-k
invariant-loop-k l = ForthTurn l.initial.w l.w l.l l.initial.z l.z l.k
