-- 1, 2 and 3 end it by the sizes alone; behind them stand the build's tests, told a tensor and a scratch of just their lengths, so
-- that 5 cannot come (`as_the_build`).
use mathlib.Core.Path.{refl}
use Rattle.rules.proofs.Given.{err_given, number_some}
use Rattle.grid.specs.GridOfCall.{grid}
use Rattle.grid_checks.proofs.Rows.{sizes_passed, sizes_stop}
use Rattle.sheet_write.specs.Write.{no_sheet_refusal}
use Rattle.sheet_write.proofs.Parts.{as_the_build}
use Rattle.sheet_write.proofs.check_parts.Goals as goal

pub returns-in_err-check_sizes : goal.returns-in_err-check_sizes
unfolding no_sheet_refusal
returns-in_err-check_sizes c =
    rw (err_given c.from_residual.result _ c.from_residual.ensures.1) (sizes_stop _ _ c.in_err-check_sizes.ensures _ (number_some _))

pub tensor_length-tensor-requires : goal.tensor_length-tensor-requires
tensor_length-tensor-requires c = sizes_passed _ _ c.in_ok-check_sizes.ensures refl

pub returns : goal.returns
returns c =
    let args = c.args in
    rw (c.check_build.ensures, c.tensor_length-tensor.ensures.0)
    (as_the_build (grid args.axes args.all args.knots.now) args.samples.now)
