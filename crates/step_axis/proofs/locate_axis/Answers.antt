-- The promise of the location: that of the rules, or knot 0 beside 2 4 7 8, or beside 10 for a fraction that is not finite.
use mathlib.Core.Path.{refl, sym, ◌∙◌}
use Rattle.rules.proofs.Given.{err_given, number_some}
use Rattle.step_axis.proofs.Answers.{point_accepted, axis_refused, location_bad, location_good}
use Rattle.step_axis.proofs.locate_axis.Goals as goal

pub returns-in_err-check_point : goal.returns-in_err-check_point
returns-in_err-check_point c =
    rw (err_given c.from_residual.result _ c.from_residual.ensures.1) (axis_refused _ _ _ c.in_err-check_point.ensures (number_some _))

pub locate_axis-location-requires : goal.locate_axis-location-requires
locate_axis-location-requires c = point_accepted _ _ _ c.in_ok-check_point.ensures refl

pub returns-then-location_refused : goal.returns-then-location_refused
returns-then-location_refused c =
    location_bad _ _ _ c.in_ok-check_point.ensures refl _
    c.locate_axis-location.ensures (sym c.location_refused.ensures ∙ c.if-location_refused.true)

pub returns : goal.returns
returns c =
    location_good _ _ _ c.in_ok-check_point.ensures refl _
    c.locate_axis-location.ensures (sym c.location_refused.ensures ∙ c.if-location_refused.false)
