use mathlib.Core.Path.{refl, ◌∙◌}
use native.Mathlib.Omega.{arith}
use lib.Ieee.{nan}
use Rattle.base_numbers.proofs.Front.{front_none, front_more, front_all}
use Rattle.base_numbers.proofs.copy.Goals as goal

pub loop-i-init : goal.loop-i-init
loop-i-init c = front_none _ _

pub loop-i-preserved : goal.loop-i-preserved
loop-i-preserved c = front_more _ _ _ _ _ nan c.loop-i.invariant refl (omega arith) (omega arith)

pub returns : goal.returns
returns c = c.loop-i.invariant ∙ front_all _ _ _ (omega arith) (omega arith)
