-- The way back: once `x` is stored at `k` the numbers from there on are done, each from the one after it, and all else stands
-- as the way forth left it.
use Rattle.axis_solve.proofs.Substitution.{Turn}
use Rattle.axis_solve.proofs.substitute.Given as goal

abbrev pub invariant-loop-k : goal.invariant-loop-k
invariant-loop-k l = Turn l.initial.w l.w l.l l.to l.last l.x l.k
