-- Refusal 7 of the curve's value: knots and samples by one test, and where it fails the point by another.
use Rattle.grid_checks.proofs.Rows.{first, second}
use Rattle.grid_checks.proofs.numbers.curve_refused.Goals as goal

pub returns-then-slices_refused : goal.returns-then-slices_refused
returns-then-slices_refused c = first _ c.slices_refused.ensures c.if-slices_refused.true

pub returns : goal.returns
returns c = second c.slices_refused.ensures c.if-slices_refused.false c.number_refused.ensures
