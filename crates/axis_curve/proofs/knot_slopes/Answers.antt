-- The promise of the slopes: after 2 4 7 8 or 10 the output stays as it was, else it holds every slope of the rules.
use native.Mathlib.Omega.{arith}
use mathlib.Core.Path.{◌≡◌, sym, ◌∙◌}
use lib.ListN.{length, length-append, length-take, length-replicate}
use Rattle.rules.proofs.Given.{err_given, number_some}
use Rattle.rules.specs.Numbers.{plus_zero}
use Rattle.grid_checks.specs.Check.{slopes_check}
use Rattle.axis_curve.proofs.PublicCalls.{slopes_refused, slopes_known, slopes_lengths, slopes_row, part_length, slopes_bad, slopes_good}
use Rattle.axis_curve.proofs.knot_slopes.Goals as goal
use Rattle.axis_curve.proofs.knot_slopes.Goals.{In_ok-check_slopes}

none : (e : In_ok-check_slopes) → let a =
    e.args in slopes_check a.points a.knots.now a.samples.now (length a.moments.now) (length a.slopes.now) ≡ 0
none e = sym e.in_ok-check_slopes.ensures

pub returns-in_err-check_slopes : goal.returns-in_err-check_slopes
returns-in_err-check_slopes c =
    let a = c.args in
    rw (err_given c.from_residual.result _ c.from_residual.ensures.1)
    (slopes_refused a.points a.knots.now a.samples.now a.moments.now a.slopes.now _ c.in_err-check_slopes.ensures (number_some _))

pub slice_bounds-row-end : goal.slice_bounds-row-end
slice_bounds-row-end c =
    let a = c.args in
    let given = slopes_known a.points a.knots.now a.samples.now a.moments.now a.slopes.now (none (goal.at.slice_bounds-row-end c).In_ok-check_slopes) in
    omega (arith, given.axis.few_points, length-replicate 256 plus_zero)

pub some_slope_refused-requires : goal.some_slope_refused-requires
some_slope_refused-requires c =
    let a = c.args in (
      slopes_lengths a.points a.knots.now a.samples.now a.moments.now a.slopes.now (none (goal.at.some_slope_refused-requires c).In_ok-check_slopes),
      slopes_row a.points a.knots.now a.samples.now a.moments.now a.slopes.now (none (goal.at.some_slope_refused-requires c).In_ok-check_slopes) _
          (length-replicate 256 plus_zero),
    )

pub returns-then-some_slope_refused : goal.returns-then-some_slope_refused
returns-then-some_slope_refused c =
    let a = c.args in
    slopes_bad a.points a.knots.now a.samples.now a.moments.now a.slopes.now (none (goal.at.returns-then-some_slope_refused c).In_ok-check_slopes) _ _
    c.some_slope_refused.ensures c.if-some_slope_refused.true

pub slice_bounds-copy-end : goal.slice_bounds-copy-end
slice_bounds-copy-end c =
    let a = c.args in
    let exact =
    part_length a.points a.knots.now a.samples.now a.moments.now a.slopes.now (none (goal.at.slice_bounds-copy-end c).In_ok-check_slopes) _ _
    c.some_slope_refused.ensures in
    simp length-append (omega (arith, exact))

pub copy-requires : goal.copy-requires
copy-requires c =
    let a = c.args in
    let exact =
    part_length a.points a.knots.now a.samples.now a.moments.now a.slopes.now (none (goal.at.copy-requires c).In_ok-check_slopes) _ _
    c.some_slope_refused.ensures in
    let given =
    slopes_known a.points a.knots.now a.samples.now a.moments.now a.slopes.now (none (goal.at.copy-requires c).In_ok-check_slopes) in
    simp (length-take, length-append) (omega (arith, exact, given.slopes_exact))

pub returns : goal.returns
returns c =
    let a = c.args in
    slopes_good a.points a.knots.now a.samples.now a.moments.now a.slopes.now (none (goal.at.returns c).In_ok-check_slopes) _ _
    c.some_slope_refused.ensures c.if-some_slope_refused.false _ _ c.copy.ensures
