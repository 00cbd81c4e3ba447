-- Row 4 of a change has two tests: the length of the knots, and where that is exact the length of the tensor.
use Rattle.grid_checks.proofs.Rows.{first, second}
use Rattle.grid_checks.proofs.lengths.change_refused.Goals as goal

pub returns-then-length_refused : goal.returns-then-length_refused
returns-then-length_refused c = rw (← c.knots_length.ensures.0) (first _ c.length_refused.ensures c.if-length_refused.true)

pub returns : goal.returns
returns c =
    rw (← c.knots_length.ensures.0, ← c.tensor_length.ensures.0)
    (second c.length_refused.ensures c.if-length_refused.false c.length_refused-2.ensures)
