use native.Mathlib.Omega.{arith}
use Rattle.axis_solve.proofs.Difference.{turn_first, turn_next, turn_last}
use Rattle.axis_solve.proofs.subtract.Goals as goal

pub loop-k-init : goal.loop-k-init
loop-k-init c = turn_first _ _ _ c.requires

pub loop-k-preserved : goal.loop-k-preserved
loop-k-preserved c = turn_next _ _ _ _ _ c.loop-k.invariant (omega arith)

pub returns : goal.returns
returns c = turn_last _ _ _ _ _ c.loop-k.invariant (omega arith)
