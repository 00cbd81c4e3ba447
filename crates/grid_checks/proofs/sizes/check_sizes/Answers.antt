-- 1 where it applies; past it there are one to four axes, and the points taken out of them answer rows 2 and 3 (`sizes_of_points`).
use mathlib.Core.Path.{sym, ◌∙◌}
use Rattle.rules.proofs.Given.{given_on}
use Rattle.grid_checks.specs.Check.{sizes_check}
use Rattle.grid_checks.proofs.Rows.{stop, pass, axes_few}
use Rattle.grid_checks.proofs.Points.{sizes_of_points}
use borrow.Author.Rules.{rules}
use Rattle.grid_checks.proofs.sizes.check_sizes.Goals as goal

pub returns-then-axes_refused : goal.returns-then-axes_refused
unfolding sizes_check
returns-then-axes_refused c = stop _ c.axes_refused.ensures c.if-axes_refused.true

pub sizes_of_points-requires : goal.sizes_of_points-requires
sizes_of_points-requires c =
    let few = axes_few (sym c.axes_refused.ensures ∙ c.if-axes_refused.false) in
    (few.0, few.1, search rules)

pub returns-in_err-sizes_of_points : goal.returns-in_err-sizes_of_points
unfolding sizes_check
returns-in_err-sizes_of_points c =
    pass _ c.axes_refused.ensures c.if-axes_refused.false
    (given_on c.from_residual.result _ c.from_residual.ensures.1
    ∙ sizes_of_points c.args.axes c.args.all c.points_of-points.result c.points_of-points.ensures c.in_err-sizes_of_points.ensures.refusal)

pub returns : goal.returns
unfolding sizes_check
returns c =
    pass _ c.axes_refused.ensures c.if-axes_refused.false
    (sizes_of_points c.args.axes c.args.all c.points_of-points.result c.points_of-points.ensures c.in_ok-sizes_of_points.ensures.refusal)
