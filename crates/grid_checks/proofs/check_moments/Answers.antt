-- 2, 4, 5, 7, 8, 9 of the curve's moments: each return gives the first row that applies; `Past` carries that those above do not.
-- Rows 2 and 4 leave as many knots as points, so knots without refusal 8 are finite (`axis_finite`), as the test for 7 requires.
use mathlib.Core.Path.{◌≡◌, refl, sym, ◌∙◌}
use mathlib.Core.Bool.{false}
use lib.ListN.{length}
use borrow.Author.Tests.{lt-ltb, le-ltb}
use Rattle.rules.specs.Refusals.{points_refused}
use Rattle.grid_checks.specs.Checked.{FiniteUnless}
use Rattle.grid_checks.specs.Check.{moments_rows, moments_check}
use Rattle.grid_checks.proofs.Rows.{stop, pass, Past, exact_3, knots_row}
use Rattle.grid_checks.proofs.FiniteKnots.{axis_finite}
use Rattle.grid_checks.proofs.check_moments.Goals as goal
use Rattle.grid_checks.proofs.check_moments.Goals.{After-knots_refused-knots_refused, Else-axis_refused, Else-fewness_refused, Else-knots_refused, Else-moments_refused, Else-points_refused, Else-scratch_length-lt-ROWS}

knots_exact : (c : Else-axis_refused) → length c.args.knots.now ≡ c.args.points
knots_exact c =
    (exact_3 (length c.args.knots.now) c.args.points (length c.args.samples.now) c.args.points
    c.args.moments_length c.args.points (sym c.axis_refused.ensures ∙ c.if-axis_refused.false)).0

in_points : (c : Else-points_refused) → points_refused c.args.points ≡ false
in_points c = sym c.points_refused.ensures ∙ c.if-points_refused.false

knots_finite : (c : After-knots_refused-knots_refused) → FiniteUnless c.knots_refused-knots_refused.result c.args.knots.now
knots_finite c =
    axis_finite c.args.knots.now c.args.points
    ((sym c.points_refused.ensures ∙ c.if-points_refused.false)) (((exact_3 (length c.args.knots.now) c.args.points (length c.args.samples.now) c.args.points
    c.args.moments_length c.args.points (sym c.axis_refused.ensures ∙ c.if-axis_refused.false)).0)) c.knots_refused-knots_refused.ensures

past_1 : (c : Else-points_refused) → Past ((moments_rows c.args.points c.args.knots.now c.args.samples.now c.args.condition c.args.moments_length
    c.args.scratch_length)) 1
past_1 c answer e = pass _ c.points_refused.ensures c.if-points_refused.false e

past_2 : (c : Else-axis_refused) → Past ((moments_rows c.args.points c.args.knots.now c.args.samples.now c.args.condition c.args.moments_length
    c.args.scratch_length)) 2
past_2 c answer e = (pass _ c.points_refused.ensures c.if-points_refused.false (pass _ c.axis_refused.ensures c.if-axis_refused.false e))

past_3 : (c : Else-scratch_length-lt-ROWS) → Past ((moments_rows c.args.points c.args.knots.now c.args.samples.now c.args.condition c.args.moments_length
    c.args.scratch_length)) 3
past_3 c answer e = ((pass _ c.points_refused.ensures c.if-points_refused.false (pass _ c.axis_refused.ensures c.if-axis_refused.false (pass _ refl (le-ltb _ _ c.if-scratch_length-lt-ROWS.false) e))))

past_4 : (c : Else-moments_refused) → Past ((moments_rows c.args.points c.args.knots.now c.args.samples.now c.args.condition c.args.moments_length
    c.args.scratch_length)) 4
past_4 c answer e = (((pass _ c.points_refused.ensures c.if-points_refused.false (pass _ c.axis_refused.ensures c.if-axis_refused.false (pass _ refl (le-ltb _ _ c.if-scratch_length-lt-ROWS.false) (pass _ c.moments_refused.ensures c.if-moments_refused.false e))))))

past_5 : (c : Else-knots_refused) → Past ((moments_rows c.args.points c.args.knots.now c.args.samples.now c.args.condition c.args.moments_length
    c.args.scratch_length)) 5
past_5 c answer e =
    ((((pass _ c.points_refused.ensures c.if-points_refused.false (pass _ c.axis_refused.ensures c.if-axis_refused.false (pass _ refl (le-ltb _ _ c.if-scratch_length-lt-ROWS.false) (pass _ c.moments_refused.ensures c.if-moments_refused.false (pass _ (knots_row _ _ (((exact_3 (length c.args.knots.now) c.args.points (length c.args.samples.now) c.args.points
    c.args.moments_length c.args.points (sym c.axis_refused.ensures ∙ c.if-axis_refused.false)).0)) c.knots_refused-knots_refused.ensures)
    c.if-knots_refused.false e))))))))

past_6 : (c : Else-fewness_refused) → Past ((moments_rows c.args.points c.args.knots.now c.args.samples.now c.args.condition c.args.moments_length
    c.args.scratch_length)) 6
past_6 c answer e = (((((pass _ c.points_refused.ensures c.if-points_refused.false (pass _ c.axis_refused.ensures c.if-axis_refused.false (pass _ refl (le-ltb _ _ c.if-scratch_length-lt-ROWS.false) (pass _ c.moments_refused.ensures c.if-moments_refused.false (pass _ (knots_row _ _ (((exact_3 (length c.args.knots.now) c.args.points (length c.args.samples.now) c.args.points
    c.args.moments_length c.args.points (sym c.axis_refused.ensures ∙ c.if-axis_refused.false)).0)) c.knots_refused-knots_refused.ensures)
    c.if-knots_refused.false (pass _ c.fewness_refused.ensures c.if-fewness_refused.false e))))))))))

pub returns-then-points_refused : goal.returns-then-points_refused
unfolding moments_check
returns-then-points_refused c = stop _ c.points_refused.ensures c.if-points_refused.true

pub returns-then-axis_refused : goal.returns-then-axis_refused
unfolding moments_check
returns-then-axis_refused c = past_1 (goal.at.returns-then-axis_refused c).Else-points_refused _ (stop _ c.axis_refused.ensures c.if-axis_refused.true)

pub returns-then-scratch_length-lt-ROWS : goal.returns-then-scratch_length-lt-ROWS
unfolding moments_check
returns-then-scratch_length-lt-ROWS c = past_2 (goal.at.returns-then-scratch_length-lt-ROWS c).Else-axis_refused _ (stop _ refl (lt-ltb _ _ c.if-scratch_length-lt-ROWS.true))

pub moments_refused-requires : goal.moments_refused-requires
moments_refused-requires c = knots_finite (goal.at.moments_refused-requires c).After-knots_refused-knots_refused

pub returns-then-moments_refused : goal.returns-then-moments_refused
unfolding moments_check
returns-then-moments_refused c = past_3 (goal.at.returns-then-moments_refused c).Else-scratch_length-lt-ROWS _ (stop _ c.moments_refused.ensures c.if-moments_refused.true)

pub returns-then-knots_refused : goal.returns-then-knots_refused
unfolding moments_check
returns-then-knots_refused c =
    past_4 (goal.at.returns-then-knots_refused c).Else-moments_refused _
    (stop _ (knots_row _ _ (knots_exact (goal.at.returns-then-knots_refused c).Else-axis_refused) c.knots_refused-knots_refused.ensures)
    c.if-knots_refused.true)

pub returns-then-fewness_refused : goal.returns-then-fewness_refused
unfolding moments_check
returns-then-fewness_refused c = past_5 (goal.at.returns-then-fewness_refused c).Else-knots_refused _ (stop _ c.fewness_refused.ensures c.if-fewness_refused.true)

pub returns : goal.returns
unfolding moments_check
returns c = past_6 (goal.at.returns c).Else-fewness_refused _ refl
