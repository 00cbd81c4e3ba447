-- What build and change share of refusal 7: the knots, and where none is refused the ends of the axes in use.
use Rattle.grid_checks.proofs.Rows.{first, second}
use Rattle.grid_checks.proofs.numbers.grid_refused.Goals as goal

pub returns-then-some_knot_refused : goal.returns-then-some_knot_refused
returns-then-some_knot_refused c = first _ c.some_knot_refused.ensures c.if-some_knot_refused.true

pub returns : goal.returns
returns c = second c.some_knot_refused.ensures c.if-some_knot_refused.false c.some_ends_refused.ensures
