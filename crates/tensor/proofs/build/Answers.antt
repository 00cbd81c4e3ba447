-- A refusal before the work leaves all as it was (`build_refused`); else the passes over the samples at mask 0 leave the tensor of the
-- rules, which by `build_done` is stored, or refused by 10, and the scratch is cleared.
use native.Mathlib.Omega.{arith}
use mathlib.Core.Path.{◌≡◌, sym}
use lib.ListN.{length}
use lib.Pow.{pow_pos}
use Rattle.rules.proofs.Given.{err_given, number_some}
use Rattle.grid_checks.specs.Checked.{BuildGiven}
use Rattle.grid.specs.GridOfCall.{grid}
use Rattle.grid_checks.specs.Check.{build_check}
use Rattle.grid_checks.proofs.Accepted.{build_given}
use Rattle.tensor_passes.proofs.MaskTurns.{given_again}
use Rattle.tensor.proofs.Building.{origin_on, build_refused, build_given_passes, samples_lie, build_done}
use Rattle.tensor.proofs.build.Goals as goal
use Rattle.tensor.proofs.build.Goals.{In_ok-check_build}

passed : (c : In_ok-check_build)
    → build_check (grid c.args.axes c.args.all c.args.knots.now) c.args.samples.now
    (length c.args.tensor.now) (length c.args.scratch.now)
    ≡ 0
passed c = sym c.in_ok-check_build.ensures

known : (c : In_ok-check_build)
    → BuildGiven (grid c.args.axes c.args.all c.args.knots.now) c.args.samples.now
    (length c.args.tensor.now) (length c.args.scratch.now)
known c = build_given _ _ _ _ (passed c)

pub returns-in_err-check_build : goal.returns-in_err-check_build
returns-in_err-check_build c =
    rw (err_given c.from_residual.result _ c.from_residual.ensures.1)
    (build_refused _ _ _ _ _ c.in_err-check_build.ensures (number_some _))

pub masks-masks-requires : goal.masks-masks-requires
masks-masks-requires c = omega (arith, (known (goal.at.masks-masks-requires c).In_ok-check_build).grid_given.in_range.few_axes)

pub store_samples-requires : goal.store_samples-requires
store_samples-requires c =
    let args = c.args in (
      samples_lie _ _ args.tensor.now args.scratch.now (known (goal.at.store_samples-requires c).In_ok-check_build) _ c.masks-masks.ensures.0,
      rw c.masks-masks.ensures.0 (pow_pos args.axes),
    )

pub solve_axes-requires : goal.solve_axes-requires
solve_axes-requires c =
    let args = c.args in
    let given = build_given_passes _ _ args.tensor.now args.scratch.now (known (goal.at.solve_axes-requires c).In_ok-check_build) in
    (given_again _ c.store_samples.ensures.same_length given, origin_on given)

pub finish-requires : goal.finish-requires
finish-requires c =
    let at_in_ok = (goal.at.finish-requires c).In_ok-check_build in
    omega (
      arith,
      c.solve_axes.ensures.0.same_length,
      c.store_samples.ensures.same_length,
      (known at_in_ok).grid_given.tensor_exact,
      (known at_in_ok).solve_given.scratch_enough,
    )

pub returns : goal.returns
returns c =
    let at_in_ok = (goal.at.returns c).In_ok-check_build in
    let args = c.args in
    build_done _ _ args.tensor.now args.scratch.now (known at_in_ok) _ _ _ _ _ _ _ (passed at_in_ok) c.masks-masks.ensures.0
    c.store_samples.ensures c.solve_axes.ensures.0 c.finish.ensures
