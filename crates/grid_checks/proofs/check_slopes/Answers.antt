-- 2, 4, 7, 8 of the knot slopes, the first row that applies. Row 4, of four lengths, makes the knots as many as the points, so that
-- the pass over all of them is row 8 (`knots_row`).
use mathlib.Core.Path.{◌≡◌, refl, sym, ◌∙◌}
use mathlib.Core.Bool.{false}
use lib.ListN.{length}
use Rattle.rules.specs.Refusals.{points_refused}
use Rattle.grid_checks.specs.Checked.{FiniteUnless}
use Rattle.grid_checks.specs.Check.{slopes_rows, slopes_check}
use Rattle.grid_checks.proofs.Rows.{stop, pass, Past, exact_4, knots_row}
use Rattle.grid_checks.proofs.FiniteKnots.{axis_finite}
use Rattle.grid_checks.proofs.check_slopes.Goals as goal
use Rattle.grid_checks.proofs.check_slopes.Goals.{After-knots_refused-knots_refused, Else-knots_refused, Else-points_refused, Else-slices_refused, Else-slopes_refused}

knots_exact : (c : Else-slopes_refused) → length c.args.knots.now ≡ c.args.points
knots_exact c =
    (exact_4 (length c.args.knots.now) c.args.points (length c.args.samples.now) c.args.points
    c.args.moments_length c.args.points c.args.slopes_length c.args.points
    (sym c.slopes_refused.ensures ∙ c.if-slopes_refused.false)).0

in_points : (c : Else-points_refused) → points_refused c.args.points ≡ false
in_points c = sym c.points_refused.ensures ∙ c.if-points_refused.false

knots_finite : (c : After-knots_refused-knots_refused) → FiniteUnless c.knots_refused-knots_refused.result c.args.knots.now
knots_finite c =
    axis_finite c.args.knots.now c.args.points ((sym c.points_refused.ensures ∙ c.if-points_refused.false))
    (((exact_4 (length c.args.knots.now) c.args.points (length c.args.samples.now) c.args.points
    c.args.moments_length c.args.points c.args.slopes_length c.args.points
    (sym c.slopes_refused.ensures ∙ c.if-slopes_refused.false)).0)) c.knots_refused-knots_refused.ensures

past_1 : (c : Else-points_refused) → Past ((slopes_rows c.args.points c.args.knots.now c.args.samples.now c.args.moments_length c.args.slopes_length)) 1
past_1 c answer e = pass _ c.points_refused.ensures c.if-points_refused.false e

past_2 : (c : Else-slopes_refused) → Past ((slopes_rows c.args.points c.args.knots.now c.args.samples.now c.args.moments_length c.args.slopes_length)) 2
past_2 c answer e = (pass _ c.points_refused.ensures c.if-points_refused.false (pass _ c.slopes_refused.ensures c.if-slopes_refused.false e))

past_3 : (c : Else-slices_refused) → Past ((slopes_rows c.args.points c.args.knots.now c.args.samples.now c.args.moments_length c.args.slopes_length)) 3
past_3 c answer e = ((pass _ c.points_refused.ensures c.if-points_refused.false (pass _ c.slopes_refused.ensures c.if-slopes_refused.false (pass _ c.slices_refused.ensures c.if-slices_refused.false e))))

past_4 : (c : Else-knots_refused) → Past ((slopes_rows c.args.points c.args.knots.now c.args.samples.now c.args.moments_length c.args.slopes_length)) 4
past_4 c answer e =
    (((pass _ c.points_refused.ensures c.if-points_refused.false (pass _ c.slopes_refused.ensures c.if-slopes_refused.false (pass _ c.slices_refused.ensures c.if-slices_refused.false (pass _ (knots_row _ _ (((exact_4 (length c.args.knots.now) c.args.points (length c.args.samples.now) c.args.points
    c.args.moments_length c.args.points c.args.slopes_length c.args.points
    (sym c.slopes_refused.ensures ∙ c.if-slopes_refused.false)).0)) c.knots_refused-knots_refused.ensures)
    c.if-knots_refused.false e))))))

pub returns-then-points_refused : goal.returns-then-points_refused
unfolding slopes_check
returns-then-points_refused c = stop _ c.points_refused.ensures c.if-points_refused.true

pub returns-then-slopes_refused : goal.returns-then-slopes_refused
unfolding slopes_check
returns-then-slopes_refused c = past_1 (goal.at.returns-then-slopes_refused c).Else-points_refused _ (stop _ c.slopes_refused.ensures c.if-slopes_refused.true)

pub slices_refused-requires : goal.slices_refused-requires
slices_refused-requires c = knots_finite (goal.at.slices_refused-requires c).After-knots_refused-knots_refused

pub returns-then-slices_refused : goal.returns-then-slices_refused
unfolding slopes_check
returns-then-slices_refused c = past_2 (goal.at.returns-then-slices_refused c).Else-slopes_refused _ (stop _ c.slices_refused.ensures c.if-slices_refused.true)

pub returns-then-knots_refused : goal.returns-then-knots_refused
unfolding slopes_check
returns-then-knots_refused c =
    past_3 (goal.at.returns-then-knots_refused c).Else-slices_refused _
    (stop _ (knots_row _ _ (knots_exact (goal.at.returns-then-knots_refused c).Else-slopes_refused) c.knots_refused-knots_refused.ensures)
    c.if-knots_refused.true)

pub returns : goal.returns
unfolding slopes_check
returns c = past_4 (goal.at.returns c).Else-knots_refused _ refl
