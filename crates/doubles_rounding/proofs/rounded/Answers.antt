-- Moved up by `shift`, the digits that are kept stand above the last eleven places (`moved_to`), and packing them is rounding.
use mathlib.Core.Path.{refl, sym, ◌∙◌}
use Rattle.doubles_rounding.proofs.Shifts.{moved_to}
use Rattle.doubles_rounding.proofs.rounded.Goals as goal

pub returns : goal.returns
returns c = (c.packed.ensures.0 ∙ sym (moved_to _ _ _ _ c.shift-up.ensures refl), c.packed.ensures.1)
