-- The promise of the exact index: with 2 4 6 7 8 none is found; where none of them applies both knots are there to compare.
use mathlib.Core.Path.{refl}
use Rattle.rules.proofs.Given.{err_given, number_some}
use Rattle.step_axis.proofs.Answers.{next_inside, exact_refused, exact_answered}
use Rattle.step_axis.proofs.exact_index.Goals as goal

pub returns-in_err-check_exact : goal.returns-in_err-check_exact
returns-in_err-check_exact c =
    rw (err_given c.from_residual.result _ c.from_residual.ensures.1) (exact_refused _ _ _ _ c.in_err-check_exact.ensures (number_some _))

pub exact_index-requires : goal.exact_index-requires
exact_index-requires c = next_inside _ _ _ _ c.in_ok-check_exact.ensures refl

pub returns : goal.returns
returns c = exact_answered _ _ _ _ c.in_ok-check_exact.ensures refl _ c.exact_index.ensures
