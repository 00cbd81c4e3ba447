-- 1 of the axes, 2 or 3 as the pass over the points finds it, and 4 by the knots that this pass counts: the rows of the profile, in order.
use mathlib.Core.Path.{◌≡◌, refl, sym, ◌∙◌}
use Rattle.rules.specs.Sizes.{place_of, sum_below}
use Rattle.rules.specs.Refusals.{length_refused}
use Rattle.grid_checks.specs.Check.{points_check, points_rows}
use Rattle.grid_checks.proofs.Rows.{stop, pass, Past, rows_given, rows_pass, axes_few}
use Rattle.query_profile.specs.Profiled.{profile_sizes_rows, profile_sizes_check}
use borrow.Author.Rules.{rules}
use Rattle.query_profile.proofs.check_profile_sizes.Goals as goal
use Rattle.query_profile.proofs.check_profile_sizes.Goals.{After-length_refused, In_ok-found}

past : (c : In_ok-found) → let s = c.args in Past (profile_sizes_rows s.axes (place_of s.points.now) s.knots) 3
unfolding points_check
past c answer e =
    pass _ c.axes_refused.ensures c.if-axes_refused.false
    (rows_pass (points_rows c.args.axes (place_of c.args.points.now)) tt c.in_ok-found.ensures.refusal _ refl e)

checked : (c : After-length_refused) → let s = c.args in
    c.length_refused.result ≡ length_refused s.knots (sum_below (place_of s.points.now) s.axes)
checked c = rw (← c.in_ok-found.ensures.sizes.knots) c.length_refused.ensures

pub returns-then-axes_refused : goal.returns-then-axes_refused
unfolding profile_sizes_check
returns-then-axes_refused c = stop _ c.axes_refused.ensures c.if-axes_refused.true

pub sizes_of_points-requires : goal.sizes_of_points-requires
sizes_of_points-requires c =
    let few = axes_few (sym c.axes_refused.ensures ∙ c.if-axes_refused.false) in
    (few.0, few.1, search rules)

pub returns-in_err-found : goal.returns-in_err-found
unfolding profile_sizes_check points_check
returns-in_err-found c =
    pass _ c.axes_refused.ensures c.if-axes_refused.false
    (rows_given (points_rows c.args.axes (place_of c.args.points.now)) tt c.from_residual.result _ c.in_err-found.ensures.refusal
    c.from_residual.ensures.1 _)

pub returns-then-length_refused : goal.returns-then-length_refused
unfolding profile_sizes_check
returns-then-length_refused c = past (goal.at.returns-then-length_refused c).In_ok-found _ (stop _ (checked (goal.at.returns-then-length_refused c).After-length_refused) c.if-length_refused.true)

pub returns : goal.returns
unfolding profile_sizes_check
returns c = past (goal.at.returns c).In_ok-found _ (pass _ (checked (goal.at.returns c).After-length_refused) c.if-length_refused.false refl)
