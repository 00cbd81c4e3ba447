-- Before the call for an exact index: 2 for the points, then 4 for a slot that is not two numbers, and else 0.
use mathlib.Core.Path.{refl}
use Rattle.grid_checks.proofs.Rows.{stop, pass}
use Rattle.c_step.specs.StepExports.{exact_own_refusal}
use Rattle.c_step.proofs.own.check_exact.Goals as goal

pub returns-then-points_refused : goal.returns-then-points_refused
unfolding exact_own_refusal
returns-then-points_refused c = stop _ c.points_refused.ensures c.if-points_refused.true

pub returns-then-length_refused : goal.returns-then-length_refused
unfolding exact_own_refusal
returns-then-length_refused c =
    pass _ c.points_refused.ensures c.if-points_refused.false
    (stop _ c.length_refused.ensures c.if-length_refused.true)

pub returns : goal.returns
unfolding exact_own_refusal
returns c =
    pass _ c.points_refused.ensures c.if-points_refused.false
    (pass _ c.length_refused.ensures c.if-length_refused.false refl)
