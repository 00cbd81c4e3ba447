-- Upward: knot 0 where the point equals it, without a search, and else the upper knot of the cell, as the rules have it.
use Rattle.step_axis.proofs.Found.{up_to_first, up_to_upper}
use Rattle.step_axis.proofs.among.upper_step.Goals as goal

pub returns-then-point-knots : goal.returns-then-point-knots
returns-then-point-knots c = up_to_first _ _ c.requires c.if-point-knots.true

pub returns : goal.returns
returns c = up_to_upper _ _ _ c.requires c.locate_lower_index.ensures c.if-point-knots.false
