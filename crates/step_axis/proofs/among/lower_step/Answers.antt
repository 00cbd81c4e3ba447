-- Downward, from the cell that was found: the last knot where the point equals it, then the cell's upper knot where it
-- equals that, else its lower one; each is the rules' step and a knot's index.
use Rattle.step_axis.proofs.Found.{down_to_last, down_to_upper, down_to_lower}
use Rattle.step_axis.proofs.among.lower_step.Goals as goal

pub returns-then-point-knots : goal.returns-then-point-knots
returns-then-point-knots c = down_to_last _ _ _ c.requires c.locate_lower_index-lower.ensures c.if-point-knots.true

pub returns-then-point-knots-2 : goal.returns-then-point-knots-2
returns-then-point-knots-2 c = down_to_upper _ _ _ c.requires c.locate_lower_index-lower.ensures c.if-point-knots.false c.if-point-knots-2.true

pub returns : goal.returns
returns c = down_to_lower _ _ _ c.requires c.locate_lower_index-lower.ensures c.if-point-knots.false c.if-point-knots-2.false
