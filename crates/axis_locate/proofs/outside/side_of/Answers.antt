-- The two tests in the rules' order: under the first knot is Below, over the last is Above, and where neither holds Inside.
use Rattle.axis_locate.proofs.Sides.{side_below, side_above, side_inside}
use Rattle.axis_locate.proofs.outside.side_of.Goals as goal

pub returns-then-point-knots : goal.returns-then-point-knots
returns-then-point-knots c = side_below _ _ c.if-point-knots.true

pub returns-then-knots-point : goal.returns-then-knots-point
returns-then-knots-point c = side_above _ _ c.if-point-knots.false c.if-knots-point.true

pub returns : goal.returns
returns c = side_inside _ _ c.if-point-knots.false c.if-knots-point.false
