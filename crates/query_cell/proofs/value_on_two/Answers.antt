-- The blend with both axes left.
use mathlib.Core.Path.{refl}
use Rattle.query_cell.proofs.value_on_two.Goals as goal

pub returns : goal.returns
returns c = c.blend_on_two.ensures.all refl
