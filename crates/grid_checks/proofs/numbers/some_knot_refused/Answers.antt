-- Knots that 8 refuses are looked at one by one; of the others it is required that they are finite, and the answer is false.
use mathlib.Core.Path.{sym}
use Rattle.grid_checks.proofs.numbers.some_knot_refused.Goals as goal

pub returns-then-knots_refused : goal.returns-then-knots_refused
returns-then-knots_refused c = c.any_not_finite.ensures

pub returns-else-knots_refused : goal.returns-else-knots_refused
returns-else-knots_refused c = sym (c.requires c.if-knots_refused.false)
