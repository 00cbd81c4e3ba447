-- The way forth: below `k` its two rows are the rules', and the divisor and second number of row `k` are known.
-- The answer is the last number of the second.
use Rattle.axis_solve.proofs.Elimination.{Turn}
use Rattle.axis_solve.proofs.eliminate.Given as goal

abbrev pub invariant-loop-k : goal.invariant-loop-k
invariant-loop-k l = Turn l.initial.w l.w l.l l.to l.divisor l.d l.k
