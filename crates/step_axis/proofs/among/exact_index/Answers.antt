-- The lower knot is compared first and then the next: found there, found one on, and not found are the three cases of the rules.
use Rattle.step_axis.proofs.Found.{exact_lower, exact_upper, exact_none}
use Rattle.step_axis.proofs.among.exact_index.Goals as goal

pub returns-then-knots-lower : goal.returns-then-knots-lower
returns-then-knots-lower c = exact_lower _ _ _ c.if-knots-lower.true

pub returns-then-knots-lower-2 : goal.returns-then-knots-lower-2
returns-then-knots-lower-2 c = exact_upper _ _ _ c.if-knots-lower.false c.if-knots-lower-2.true

pub returns : goal.returns
returns c = exact_none _ _ _ c.if-knots-lower.false c.if-knots-lower-2.false
