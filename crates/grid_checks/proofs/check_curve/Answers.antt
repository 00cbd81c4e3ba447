-- 2, 4, 7, 8 of the curve's value: the number returned is that of the first row that applies, and 0 where four rows have passed.
-- The pass for 8 comes before the test for 7, and what it says of finite knots is `axis_finite`.
use mathlib.Core.Path.{◌≡◌, refl, sym, ◌∙◌}
use mathlib.Core.Bool.{false}
use lib.ListN.{length}
use Rattle.rules.specs.Refusals.{points_refused}
use Rattle.grid_checks.specs.Checked.{FiniteUnless}
use Rattle.grid_checks.specs.Check.{curve_rows, curve_check}
use Rattle.grid_checks.proofs.Rows.{stop, pass, Past, exact_3, knots_row}
use Rattle.grid_checks.proofs.FiniteKnots.{axis_finite}
use Rattle.grid_checks.proofs.check_curve.Goals as goal
use Rattle.grid_checks.proofs.check_curve.Goals.{After-knots_refused-knots_refused, Else-axis_refused, Else-curve_refused, Else-knots_refused, Else-points_refused}

knots_exact : (c : Else-axis_refused) → length c.args.knots.now ≡ c.args.points
knots_exact c =
    (exact_3 (length c.args.knots.now) c.args.points (length c.args.samples.now) c.args.points
    c.args.moments_length c.args.points (sym c.axis_refused.ensures ∙ c.if-axis_refused.false)).0

in_points : (c : Else-points_refused) → points_refused c.args.points ≡ false
in_points c = sym c.points_refused.ensures ∙ c.if-points_refused.false

knots_finite : (c : After-knots_refused-knots_refused) → FiniteUnless c.knots_refused-knots_refused.result c.args.knots.now
knots_finite c =
    axis_finite c.args.knots.now c.args.points ((sym c.points_refused.ensures ∙ c.if-points_refused.false))
    (((exact_3 (length c.args.knots.now) c.args.points (length c.args.samples.now) c.args.points
    c.args.moments_length c.args.points (sym c.axis_refused.ensures ∙ c.if-axis_refused.false)).0)) c.knots_refused-knots_refused.ensures

past_1 : (c : Else-points_refused) → Past ((curve_rows c.args.points c.args.knots.now c.args.samples.now c.args.moments_length c.args.point)) 1
past_1 c answer e = pass _ c.points_refused.ensures c.if-points_refused.false e

past_2 : (c : Else-axis_refused) → Past ((curve_rows c.args.points c.args.knots.now c.args.samples.now c.args.moments_length c.args.point)) 2
past_2 c answer e = (pass _ c.points_refused.ensures c.if-points_refused.false (pass _ c.axis_refused.ensures c.if-axis_refused.false e))

past_3 : (c : Else-curve_refused) → Past ((curve_rows c.args.points c.args.knots.now c.args.samples.now c.args.moments_length c.args.point)) 3
past_3 c answer e = ((pass _ c.points_refused.ensures c.if-points_refused.false (pass _ c.axis_refused.ensures c.if-axis_refused.false (pass _ c.curve_refused.ensures c.if-curve_refused.false e))))

past_4 : (c : Else-knots_refused) → Past ((curve_rows c.args.points c.args.knots.now c.args.samples.now c.args.moments_length c.args.point)) 4
past_4 c answer e =
    (((pass _ c.points_refused.ensures c.if-points_refused.false (pass _ c.axis_refused.ensures c.if-axis_refused.false (pass _ c.curve_refused.ensures c.if-curve_refused.false (pass _ (knots_row _ _ (((exact_3 (length c.args.knots.now) c.args.points (length c.args.samples.now) c.args.points
    c.args.moments_length c.args.points (sym c.axis_refused.ensures ∙ c.if-axis_refused.false)).0)) c.knots_refused-knots_refused.ensures)
    c.if-knots_refused.false e))))))

pub returns-then-points_refused : goal.returns-then-points_refused
unfolding curve_check
returns-then-points_refused c = stop _ c.points_refused.ensures c.if-points_refused.true

pub returns-then-axis_refused : goal.returns-then-axis_refused
unfolding curve_check
returns-then-axis_refused c = past_1 (goal.at.returns-then-axis_refused c).Else-points_refused _ (stop _ c.axis_refused.ensures c.if-axis_refused.true)

pub curve_refused-requires : goal.curve_refused-requires
curve_refused-requires c = knots_finite (goal.at.curve_refused-requires c).After-knots_refused-knots_refused

pub returns-then-curve_refused : goal.returns-then-curve_refused
unfolding curve_check
returns-then-curve_refused c = past_2 (goal.at.returns-then-curve_refused c).Else-axis_refused _ (stop _ c.curve_refused.ensures c.if-curve_refused.true)

pub returns-then-knots_refused : goal.returns-then-knots_refused
unfolding curve_check
returns-then-knots_refused c =
    past_3 (goal.at.returns-then-knots_refused c).Else-curve_refused _
    (stop _ (knots_row _ _ (knots_exact (goal.at.returns-then-knots_refused c).Else-axis_refused) c.knots_refused-knots_refused.ensures)
    c.if-knots_refused.true)

pub returns : goal.returns
unfolding curve_check
returns c = past_4 (goal.at.returns c).Else-knots_refused _ refl
