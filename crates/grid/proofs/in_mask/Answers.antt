-- The bit of the axis: the mask divided by 2 to the power of the axis is odd, in the rules as in the code.
use mathlib.Core.Path.{refl}
use Rattle.rules.specs.Sizes.{in_mask}
use Rattle.grid.proofs.in_mask.Goals as goal

pub returns : goal.returns
unfolding in_mask
returns c = refl
