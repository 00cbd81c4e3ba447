-- The promise of a step on one axis: index 0 beside 2 4 7 8, else the knot that the rules step to in the direction given.
use mathlib.Core.Path.{refl}
use Rattle.rules.proofs.Given.{err_given, number_some}
use Rattle.step_axis.proofs.Answers.{point_accepted, step_refused, step_answered}
use Rattle.step_axis.proofs.locate_step_index.Goals as goal

pub returns-in_err-check_point : goal.returns-in_err-check_point
returns-in_err-check_point c =
    rw (err_given c.from_residual.result _ c.from_residual.ensures.1) (step_refused _ _ _ _ c.in_err-check_point.ensures (number_some _))

pub step_index-requires : goal.step_index-requires
step_index-requires c = point_accepted _ _ _ c.in_ok-check_point.ensures refl

pub returns : goal.returns
returns c = step_answered _ _ _ _ c.in_ok-check_point.ensures refl _ c.step_index.ensures
