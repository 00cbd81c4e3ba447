-- 2 or 4 where the axis has one; else there are as many knots as points, and what their numbers meet is the answer.
use mathlib.Core.Path.{refl}
use Rattle.step_checks.specs.StepChecks.{point_check}
use Rattle.step_checks.proofs.Rows.{axis_given, axis_pass, knots_fit, numbers_of_points}
use Rattle.step_checks.proofs.check_point.Goals as goal

pub returns-in_err-check_axis : goal.returns-in_err-check_axis
unfolding point_check
returns-in_err-check_axis c =
    axis_given _ c.args.knots.now c.in_err-check_axis.ensures c.from_residual.result _ refl c.from_residual.ensures.1 _

pub check_numbers-requires : goal.check_numbers-requires
check_numbers-requires c = knots_fit _ c.args.knots.now c.in_ok-check_axis.ensures refl

pub returns : goal.returns
unfolding point_check
returns c =
    axis_pass _ c.args.knots.now c.in_ok-check_axis.ensures _ refl
    (numbers_of_points _ c.args.knots.now c.in_ok-check_axis.ensures _
    refl c.check_numbers.ensures)
