-- The points of the head, the ends and the mode are together the axis of the rules.
use mathlib.Core.Path.{ap, ◌∙◌}
use Rattle.grid_codes.specs.Modes.{mode_of_number}
use Rattle.sheet_read.proofs.HeadFields.{axis_of_parts}
use Rattle.sheet_read.proofs.axes.axis.Goals as goal

pub returns : goal.returns
returns c =
    let head = c.requires.2 in
    axis_of_parts _ _ _ _ _ head.points c.condition.ensures (c.mode_of_number.ensures ∙ ap mode_of_number head.mode)
