use Rattle.tensor_plan.proofs.SecondTurns.{back_first, back_next, back_last}
use Rattle.tensor_plan.proofs.cycle.second_back.Goals as goal

pub loop-k-init : goal.loop-k-init
loop-k-init c = back_first _ _ c.requires

pub loop-k-preserved : goal.loop-k-preserved
loop-k-preserved c = back_next _ _ _ _ _ c.loop-k.invariant c.loop-k-test.true

pub returns : goal.returns
returns c = back_last _ _ _ _ _ c.loop-k.invariant c.loop-k-test.false
