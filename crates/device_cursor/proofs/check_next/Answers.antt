-- The curve's own refusal comes first; of a curve without one, 20 for a cursor behind 256 times the cells, which does not overflow
-- as they are at most 255, and 0 for any other.
use mathlib.Core.Path.{sym}
use native.Mathlib.Omega.{arith}
use lib.ListN.{length}
use Rattle.device_cell.proofs.Given.{err_given, number_some}
use Rattle.device_cursor.proofs.Judged.{Whole, length_known}
use Rattle.device_cursor.proofs.Steps.{curve_refused, past_the_end, not_refused}
use Rattle.device_cursor.proofs.check_next.Goals as goal

pub returns-in_err-check_curve : goal.returns-in_err-check_curve
returns-in_err-check_curve c =
    rw (err_given c.from_residual.result _ c.from_residual.ensures.1)
    (curve_refused _ _ _ c.in_err-check_curve.ensures (number_some _))

pub overflow_mul-curve : goal.overflow_mul-curve
overflow_mul-curve c = let w : Whole (length c.args.curve.now) = length_known _ (sym c.in_ok-check_curve.ensures) in omega arith

pub returns-then-curve-n : goal.returns-then-curve-n
returns-then-curve-n c = past_the_end _ _ (sym c.in_ok-check_curve.ensures) c.if-curve-n.true

pub returns : goal.returns
returns c = not_refused _ _ (sym c.in_ok-check_curve.ensures) c.if-curve-n.false
