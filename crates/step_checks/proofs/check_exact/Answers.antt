-- 2 and 4, then 6, where past 2 there are two points to subtract, then 7 and 8: the first that applies is the answer.
use mathlib.Core.Path.{refl}
use native.Mathlib.Omega.{arith}
use borrow.Author.Tests.{ltb-false, lt-ltb, le-ltb}
use Rattle.base_numbers.proofs.Scan.{neither}
use Rattle.grid_checks.proofs.Rows.{stop, pass}
use Rattle.step_checks.specs.StepChecks.{exact_check}
use Rattle.step_checks.proofs.Rows.{axis_given, axis_pass, axis_fits, knots_fit, numbers_of_points}
use Rattle.step_checks.proofs.check_exact.Goals as goal

pub returns-in_err-check_axis : goal.returns-in_err-check_axis
unfolding exact_check
returns-in_err-check_axis c =
    axis_given _ c.args.knots.now c.in_err-check_axis.ensures c.from_residual.result _ refl c.from_residual.ensures.1 _

pub overflow_sub-points : goal.overflow_sub-points
overflow_sub-points c =
    let fits =
    axis_fits c.args.points c.args.knots.now c.in_ok-check_axis.ensures refl in
    let some = ltb-false c.args.points 2 (neither _ _ fits.0).0 in
    omega arith

pub returns-then-points-lower : goal.returns-then-points-lower
unfolding exact_check
returns-then-points-lower c =
    axis_pass _ c.args.knots.now c.in_ok-check_axis.ensures _ refl
    (stop _ refl (lt-ltb _ _ c.if-points-lower.true))

pub check_numbers-requires : goal.check_numbers-requires
check_numbers-requires c = knots_fit _ c.args.knots.now c.in_ok-check_axis.ensures refl

pub returns : goal.returns
unfolding exact_check
returns c =
    axis_pass _ c.args.knots.now c.in_ok-check_axis.ensures _
    refl
    (pass _ refl (le-ltb _ _ c.if-points-lower.false)
    (numbers_of_points _ c.args.knots.now c.in_ok-check_axis.ensures _
    refl c.check_numbers.ensures))
