use native.Mathlib.Omega.{arith}
use Rattle.tensor_plan.proofs.StepTurns.{turn_first, turn_next, turn_last}
use Rattle.tensor_plan.proofs.ends.steps.Goals as goal

pub loop-k-init : goal.loop-k-init
loop-k-init c = turn_first _ _ c.requires.0 c.requires.1 c.requires.2

pub loop-k-preserved : goal.loop-k-preserved
loop-k-preserved c = turn_next _ _ _ _ c.loop-k.invariant (omega arith)

pub returns : goal.returns
returns c = turn_last _ _ _ _ c.loop-k.invariant (omega arith)
