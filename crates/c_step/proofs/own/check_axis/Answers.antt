-- Before the call that locates a point: 2 for the points, then 4 for a slot of the location or the fraction, and else 0.
use mathlib.Core.Path.{refl}
use Rattle.grid_checks.proofs.Rows.{stop, pass}
use Rattle.c_step.specs.StepExports.{axis_own_refusal}
use Rattle.c_step.proofs.own.check_axis.Goals as goal

pub returns-then-points_refused : goal.returns-then-points_refused
unfolding axis_own_refusal
returns-then-points_refused c = stop _ c.points_refused.ensures c.if-points_refused.true

pub returns-then-location_slots_refused : goal.returns-then-location_slots_refused
unfolding axis_own_refusal
returns-then-location_slots_refused c =
    pass _ c.points_refused.ensures c.if-points_refused.false
    (stop _ c.location_slots_refused.ensures c.if-location_slots_refused.true)

pub returns : goal.returns
unfolding axis_own_refusal
returns c =
    pass _ c.points_refused.ensures c.if-points_refused.false
    (pass _ c.location_slots_refused.ensures c.if-location_slots_refused.false refl)
