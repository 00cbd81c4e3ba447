-- Refusal 7 of a change in three returns: the grid's knots and ends, the new sample, the numbers of the tensor.
use mathlib.Core.Path.{refl}
use Rattle.grid_checks.proofs.Rows.{first, second}
use Rattle.grid_checks.proofs.numbers.change_refused.Goals as goal

pub returns-then-grid_refused : goal.returns-then-grid_refused
returns-then-grid_refused c = first _ (first _ c.grid_refused.ensures c.if-grid_refused.true) refl

pub returns-then-number_refused : goal.returns-then-number_refused
returns-then-number_refused c =
    first _
    (second c.grid_refused.ensures c.if-grid_refused.false c.number_refused.ensures)
    c.if-number_refused.true

pub returns : goal.returns
returns c =
    second
    (second c.grid_refused.ensures c.if-grid_refused.false
    c.number_refused.ensures)
    c.if-number_refused.false
    c.any_of_many_not_finite.ensures
