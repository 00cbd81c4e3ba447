-- The steps below knot `k` stand in front of the scratch, and from the row of divisors on it is kept.
use Rattle.tensor_plan.proofs.StepTurns.{Turn}
use Rattle.tensor_plan.proofs.ends.steps.Given as goal

abbrev pub invariant-loop-k : goal.invariant-loop-k
invariant-loop-k l = Turn l.initial.w l.w l.x l.k
