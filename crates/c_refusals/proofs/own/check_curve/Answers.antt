-- Two rows: 2 for the points comes before 4 for a slot of the value that is not one number, and 0 is given where neither applies.
use mathlib.Core.Path.{refl}
use Rattle.grid_checks.proofs.Rows.{stop, pass}
use Rattle.c_refusals.specs.OwnRefusals.{curve_own_refusal}
use Rattle.c_refusals.proofs.own.check_curve.Goals as goal

pub returns-then-points_refused : goal.returns-then-points_refused
unfolding curve_own_refusal
returns-then-points_refused c = stop _ c.points_refused.ensures c.if-points_refused.true

pub returns-then-length_refused : goal.returns-then-length_refused
unfolding curve_own_refusal
returns-then-length_refused c =
    pass _ c.points_refused.ensures c.if-points_refused.false
    (stop _ c.length_refused.ensures c.if-length_refused.true)

pub returns : goal.returns
unfolding curve_own_refusal
returns c =
    pass _ c.points_refused.ensures c.if-points_refused.false
    (pass _ c.length_refused.ensures c.if-length_refused.false refl)
