-- 2 for the points is asked before 4 for the number of knots; each of the three ways out is the first row that applies.
use mathlib.Core.Path.{refl}
use Rattle.grid_checks.proofs.Rows.{stop, pass}
use Rattle.step_checks.specs.StepChecks.{axis_check}
use Rattle.step_checks.proofs.check_axis.Goals as goal

pub returns-then-points_refused : goal.returns-then-points_refused
unfolding axis_check
returns-then-points_refused c = stop _ c.points_refused.ensures c.if-points_refused.true

pub returns-then-length_refused : goal.returns-then-length_refused
unfolding axis_check
returns-then-length_refused c =
    pass _ c.points_refused.ensures c.if-points_refused.false
    (stop _ c.length_refused.ensures c.if-length_refused.true)

pub returns : goal.returns
unfolding axis_check
returns c =
    pass _ c.points_refused.ensures c.if-points_refused.false
    (pass _ c.length_refused.ensures c.if-length_refused.false refl)
