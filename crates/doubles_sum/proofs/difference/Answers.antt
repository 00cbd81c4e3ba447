-- A difference is the sum with the opposite number, as IEEE 754 has it (`sub_is`).
use mathlib.Core.Path.{◌∙◌}
use Rattle.doubles_sum.proofs.Sums.{sub_is}
use Rattle.doubles_sum.proofs.difference.Goals as goal

pub returns : goal.returns
returns c = c.sum.ensures ∙ sub_is _ _ _ c.opposite.ensures
