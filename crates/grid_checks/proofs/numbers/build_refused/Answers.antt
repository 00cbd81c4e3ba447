-- Refusal 7 of a build: the knots and ends of the grid together, and past them the samples.
use Rattle.grid_checks.proofs.Rows.{first, second}
use Rattle.grid_checks.proofs.numbers.build_refused.Goals as goal

pub returns-then-grid_refused : goal.returns-then-grid_refused
returns-then-grid_refused c = first _ c.grid_refused.ensures c.if-grid_refused.true

pub returns : goal.returns
returns c = second c.grid_refused.ensures c.if-grid_refused.false c.any_of_many_not_finite.ensures
