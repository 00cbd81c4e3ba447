-- The promise of the curve's value: that of the rules in the cell that was found, or +0.0 beside a refusal met before the work,
-- or beside 10 where the value is not finite.
use mathlib.Core.Path.{sym, ◌∙◌}
use Rattle.rules.proofs.Given.{err_given, number_some}
use Rattle.axis_curve.proofs.PublicCalls.{curve_refused, curve_lengths, few_knots, curve_good, curve_bad}
use Rattle.axis_curve.proofs.curve.Goals as goal

pub returns-in_err-check_curve : goal.returns-in_err-check_curve
returns-in_err-check_curve c =
    let a = c.args in
    rw (err_given c.from_residual.result _ c.from_residual.ensures.1)
    (curve_refused a.points a.knots.now a.samples.now a.moments.now a.point _ c.in_err-check_curve.ensures (number_some _))

pub locate_lower_index-cell-requires : goal.locate_lower_index-cell-requires
locate_lower_index-cell-requires c =
    let a = c.args in
    let none = sym c.in_ok-check_curve.ensures in (
      (curve_lengths a.points a.knots.now a.samples.now a.moments.now a.point none).least,
      few_knots a.points a.knots.now a.samples.now a.moments.now a.point none,
    )

pub curve_in_cell-value-requires : goal.curve_in_cell-value-requires
curve_in_cell-value-requires c =
    let a = c.args in (
      curve_lengths a.points a.knots.now a.samples.now a.moments.now a.point
          (sym c.in_ok-check_curve.ensures),
      c.locate_lower_index-cell.ensures.inside,
    )

pub returns-then-is_finite : goal.returns-then-is_finite
returns-then-is_finite c =
    let a = c.args in
    curve_good a.points a.knots.now a.samples.now a.moments.now a.point
    (sym c.in_ok-check_curve.ensures) _ _ c.locate_lower_index-cell.ensures
    c.curve_in_cell-value.ensures _ c.is_finite.ensures c.if-is_finite.true

pub returns-else-is_finite : goal.returns-else-is_finite
returns-else-is_finite c =
    let a = c.args in
    curve_bad a.points a.knots.now a.samples.now a.moments.now a.point
    (sym c.in_ok-check_curve.ensures) _ _ c.locate_lower_index-cell.ensures
    c.curve_in_cell-value.ensures _ c.is_finite.ensures c.if-is_finite.false
