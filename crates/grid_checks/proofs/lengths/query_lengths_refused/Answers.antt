-- Three tests in a row: knots and tensor against the sizes handed in, coordinates against the count of axes.
use mathlib.Core.Path.{refl}
use Rattle.grid_checks.proofs.Rows.{first, second}
use Rattle.grid_checks.proofs.lengths.query_lengths_refused.Goals as goal

pub returns-then-length_refused : goal.returns-then-length_refused
returns-then-length_refused c = first _ (first _ c.length_refused.ensures c.if-length_refused.true) refl

pub returns-then-length_refused-2 : goal.returns-then-length_refused-2
returns-then-length_refused-2 c =
    first _
    (second c.length_refused.ensures c.if-length_refused.false c.length_refused-2.ensures)
    c.if-length_refused-2.true

pub returns : goal.returns
returns c =
    second
    (second c.length_refused.ensures c.if-length_refused.false
    c.length_refused-2.ensures)
    c.if-length_refused-2.false
    c.length_refused-3.ensures
