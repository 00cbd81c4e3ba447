-- The promise of the moments: 2 4 5 7 8 9 leave output and scratch untouched, and where none of them applies all that
-- `work_moments` asks is known.
use mathlib.Core.Path.{sym, ◌∙◌}
use Rattle.rules.proofs.Given.{err_given, number_some}
use Rattle.axis_curve.proofs.PublicCalls.{moments_refused, moments_lane, moments_fewest, moments_samples, moments_out, moments_worked}
use Rattle.axis_curve.proofs.moments.Goals as goal

pub returns-in_err-check_moments : goal.returns-in_err-check_moments
returns-in_err-check_moments c =
    let a = c.args in
    rw (err_given c.from_residual.result _ c.from_residual.ensures.1)
    (moments_refused a.points a.knots.now a.samples.now a.condition a.moments.now a.scratch.now _ c.in_err-check_moments.ensures (number_some _))

pub work_moments-requires : goal.work_moments-requires
work_moments-requires c =
    let a = c.args in
    let none = sym c.in_ok-check_moments.ensures in
    record {
      rows_fit = (
        moments_lane a.points a.knots.now a.samples.now a.condition a.moments.now a.scratch.now none,
        moments_fewest a.points a.knots.now a.samples.now a.condition a.moments.now a.scratch.now none,
      );
      samples_len = (
        moments_samples a.points a.knots.now a.samples.now a.condition a.moments.now a.scratch.now none,
        moments_out a.points a.knots.now a.samples.now a.condition a.moments.now a.scratch.now none,
      );
    }

pub returns : goal.returns
returns c =
    let a = c.args in
    moments_worked a.points a.knots.now a.samples.now a.condition a.moments.now a.scratch.now
    (sym c.in_ok-check_moments.ensures) _ _ _ c.work_moments.ensures
