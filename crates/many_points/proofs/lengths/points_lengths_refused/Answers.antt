-- Coordinates, values and labels are asked one after the other.
use mathlib.Core.Path.{refl}
use Rattle.grid_checks.proofs.Rows.{first, second}
use Rattle.many_points.proofs.lengths.points_lengths_refused.Goals as goal

pub returns-then-parts_refused : goal.returns-then-parts_refused
returns-then-parts_refused c = first _ (first _ c.parts_refused.ensures c.if-parts_refused.true) refl

pub returns-then-length_refused : goal.returns-then-length_refused
returns-then-length_refused c = first _ (second c.parts_refused.ensures c.if-parts_refused.false c.length_refused.ensures) c.if-length_refused.true

pub returns : goal.returns
returns c =
    second (second c.parts_refused.ensures c.if-parts_refused.false c.length_refused.ensures)
    c.if-length_refused.false
    c.parts_refused-2.ensures
