-- The numbers of y below `k` have lost factor times z, and those from `k` on have not.
use Rattle.axis_solve.proofs.Difference.{Turn}
use Rattle.axis_solve.proofs.subtract.Given as goal

abbrev pub invariant-loop-k : goal.invariant-loop-k
invariant-loop-k l = Turn l.initial.w l.w l.l l.factor l.k
