-- Row 4 of a build: knots, samples and tensor, each held against the length that the grid's sizes ask for, one after the other.
use mathlib.Core.Path.{refl}
use Rattle.grid_checks.proofs.Rows.{first, second}
use Rattle.grid_checks.proofs.lengths.build_refused.Goals as goal

pub returns-then-length_refused : goal.returns-then-length_refused
returns-then-length_refused c =
    rw (← c.knots_length.ensures.0)
    (first _ (first _ c.length_refused.ensures c.if-length_refused.true) refl)

pub returns-then-length_refused-2 : goal.returns-then-length_refused-2
returns-then-length_refused-2 c =
    rw (← c.knots_length.ensures.0, ← c.samples_length.ensures.0)
    (first _
    (second c.length_refused.ensures c.if-length_refused.false
    c.length_refused-2.ensures)
    c.if-length_refused-2.true)

pub returns : goal.returns
returns c =
    rw (
      ← c.knots_length.ensures.0,
      ← c.tensor_length.ensures.0,
      ← c.samples_length.ensures.0,
    )
    (second
    (second c.length_refused.ensures c.if-length_refused.false c.length_refused-2.ensures)
    c.if-length_refused-2.false
    c.length_refused-3.ensures)
