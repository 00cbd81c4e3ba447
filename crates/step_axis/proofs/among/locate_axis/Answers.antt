-- The location in the cell that was found: exact where one of its knots equals the point (`on_knot`), else the cell and the
-- fraction (`in_cell`).
use Rattle.step_axis.proofs.Found.{on_knot, in_cell}
use Rattle.step_axis.proofs.among.locate_axis.Goals as goal

pub returns-in-Some : goal.returns-in-Some
returns-in-Some c =
    on_knot _ _ _ c.requires c.locate_lower_index-lower.ensures c.exact_index.ensures _
    c.in-Some.is

pub returns-in-None : goal.returns-in-None
returns-in-None c =
    in_cell _ _ _ c.requires c.locate_lower_index-lower.ensures c.exact_index.ensures
    c.in-None.is
