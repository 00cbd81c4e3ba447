-- Knots, samples and coordinates, each held against the length that the sizes ask for: true at the first that differs.
use mathlib.Core.Path.{refl}
use Rattle.grid_checks.proofs.Rows.{first, second}
use Rattle.step_checks.proofs.stepped_lengths_refused.Goals as goal

pub returns-then-length_refused : goal.returns-then-length_refused
returns-then-length_refused c = first _ (first _ c.length_refused.ensures c.if-length_refused.true) refl

pub returns-then-length_refused-2 : goal.returns-then-length_refused-2
returns-then-length_refused-2 c = first _ (second c.length_refused.ensures c.if-length_refused.false c.length_refused-2.ensures) c.if-length_refused-2.true

pub returns : goal.returns
returns c =
    second
    (second c.length_refused.ensures c.if-length_refused.false c.length_refused-2.ensures)
    c.if-length_refused-2.false
    c.length_refused-3.ensures
