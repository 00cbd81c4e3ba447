-- The refusal found is the first of 1, 4, 2 and 3 that applies to the axes and their points; where it is 0, the knots and the
-- numbers found beside it are those of the grid. `sizes_of_four` carries the sizes of the points over to those of the axes in use.
use mathlib.Core.Path.{sym, ◌∙◌}
use Rattle.grid_checks.proofs.Rows.{exact, axes_few}
use Rattle.c_refusals.proofs.Rows.{refused_axes, refused_points, sizes_of_four}
use Rattle.c_refusals.proofs.own.check_axes.Goals as goal

pub returns-then-axes_refused : goal.returns-then-axes_refused
returns-then-axes_refused c = refused_axes _ _ (sym c.axes_refused.ensures ∙ c.if-axes_refused.true)

pub returns-then-length_refused : goal.returns-then-length_refused
returns-then-length_refused c =
    refused_points _ _ (sym c.axes_refused.ensures ∙ c.if-axes_refused.false)
    (sym c.length_refused.ensures ∙ c.if-length_refused.true)

pub sizes_of_points-requires : goal.sizes_of_points-requires
sizes_of_points-requires c =
    let few = axes_few (sym c.axes_refused.ensures ∙ c.if-axes_refused.false) in
    (few.0, few.1, exact _ 4 (sym c.length_refused.ensures ∙ c.if-length_refused.false))

pub returns : goal.returns
returns c =
    sizes_of_four _ _ (sym c.axes_refused.ensures ∙ c.if-axes_refused.false)
    (sym c.length_refused.ensures ∙ c.if-length_refused.false) c.sizes_of_points.ensures
