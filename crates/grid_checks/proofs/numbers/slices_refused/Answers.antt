-- A knot that is refused answers for both slices; where there is none, the pass over the others does.
use Rattle.grid_checks.proofs.Rows.{first, second}
use Rattle.grid_checks.proofs.numbers.slices_refused.Goals as goal

pub returns-then-some_knot_refused : goal.returns-then-some_knot_refused
returns-then-some_knot_refused c = first _ c.some_knot_refused.ensures c.if-some_knot_refused.true

pub returns : goal.returns
returns c = second c.some_knot_refused.ensures c.if-some_knot_refused.false c.any_not_finite.ensures
