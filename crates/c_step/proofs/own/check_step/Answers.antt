-- Three rows by four tests: 2, then 4 for the slot of the index or for the knots, then 22 for a direction above 1.
use mathlib.Core.Path.{refl}
use borrow.Author.Tests.{lt-ltb, le-ltb}
use Rattle.grid_checks.proofs.Rows.{first, second, stop, pass, Past}
use Rattle.c_step.specs.StepExports.{step_own_rows, step_own_refusal}
use Rattle.c_step.proofs.own.check_step.Goals as goal
use Rattle.c_step.proofs.own.check_step.Goals.{Else-length_refused-2, Else-points_refused}

past_points : (c : Else-points_refused) → Past ((step_own_rows c.args.points c.args.knots.now c.args.direction c.args.index.now)) 1
past_points c answer e = pass _ c.points_refused.ensures c.if-points_refused.false e

past_lengths : (c : Else-length_refused-2) → Past ((step_own_rows c.args.points c.args.knots.now c.args.direction c.args.index.now)) 2
past_lengths c answer e =
    (pass _ c.points_refused.ensures c.if-points_refused.false (pass _
    (second c.length_refused.ensures c.if-length_refused.false c.length_refused-2.ensures)
    c.if-length_refused-2.false e))

pub returns-then-points_refused : goal.returns-then-points_refused
unfolding step_own_refusal
returns-then-points_refused c = stop _ c.points_refused.ensures c.if-points_refused.true

pub returns-then-length_refused : goal.returns-then-length_refused
unfolding step_own_refusal
returns-then-length_refused c = past_points (goal.at.returns-then-length_refused c).Else-points_refused _ (stop _ (first _ c.length_refused.ensures c.if-length_refused.true) refl)

pub returns-then-length_refused-2 : goal.returns-then-length_refused-2
unfolding step_own_refusal
returns-then-length_refused-2 c =
    past_points (goal.at.returns-then-length_refused-2 c).Else-points_refused _
    (stop _
    (second c.length_refused.ensures c.if-length_refused.false c.length_refused-2.ensures)
    c.if-length_refused-2.true)

pub returns-then-direction-gt1 : goal.returns-then-direction-gt1
unfolding step_own_refusal
returns-then-direction-gt1 c = past_lengths (goal.at.returns-then-direction-gt1 c).Else-length_refused-2 _ (stop _ refl (lt-ltb _ _ c.if-direction-gt1.true))

pub returns : goal.returns
unfolding step_own_refusal
returns c = past_lengths (goal.at.returns c).Else-length_refused-2 _ (pass _ refl (le-ltb _ _ c.if-direction-gt1.false) refl)
