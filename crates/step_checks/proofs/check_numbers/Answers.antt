-- 7 is answered before 8 although the pass for 8 comes first: by `axis_finite` knots that pass it need no look for 7.
use mathlib.Core.Path.{refl}
use Rattle.grid_checks.proofs.Rows.{first, second, stop, pass}
use Rattle.grid_checks.proofs.FiniteKnots.{axis_finite}
use Rattle.step_checks.specs.StepChecks.{numbers_check}
use Rattle.step_checks.proofs.check_numbers.Goals as goal

pub some_knot_refused-requires : goal.some_knot_refused-requires
some_knot_refused-requires c = axis_finite _ _ c.requires refl c.knots_refused-knots_refused.ensures

pub returns-then-some_knot_refused : goal.returns-then-some_knot_refused
unfolding numbers_check
returns-then-some_knot_refused c = stop _ (first _ c.some_knot_refused.ensures c.if-some_knot_refused.true) refl

pub returns-then-number_refused : goal.returns-then-number_refused
unfolding numbers_check
returns-then-number_refused c =
    stop _
    (second c.some_knot_refused.ensures c.if-some_knot_refused.false c.number_refused.ensures)
    c.if-number_refused.true

pub returns-then-knots_refused : goal.returns-then-knots_refused
unfolding numbers_check
returns-then-knots_refused c =
    pass _
    (second c.some_knot_refused.ensures c.if-some_knot_refused.false
    c.number_refused.ensures)
    c.if-number_refused.false
    (stop _ c.knots_refused-knots_refused.ensures c.if-knots_refused.true)

pub returns : goal.returns
unfolding numbers_check
returns c =
    pass _
    (second c.some_knot_refused.ensures c.if-some_knot_refused.false
    c.number_refused.ensures)
    c.if-number_refused.false
    (pass _ c.knots_refused-knots_refused.ensures c.if-knots_refused.false refl)
