-- Row 4 of the knot slopes: the three lengths of the axis, and past them that of the slopes.
use Rattle.grid_checks.proofs.Rows.{first, second}
use Rattle.grid_checks.proofs.lengths.slopes_refused.Goals as goal

pub returns-then-axis_refused : goal.returns-then-axis_refused
returns-then-axis_refused c = first _ c.axis_refused.ensures c.if-axis_refused.true

pub returns : goal.returns
returns c = second c.axis_refused.ensures c.if-axis_refused.false c.length_refused.ensures
