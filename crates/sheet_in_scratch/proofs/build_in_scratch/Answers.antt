-- A refusal before the work leaves the scratch as it was (`refused_before`); else the passes over the samples at mask 0 leave the tensor of
-- the rules, which is refused by 10 or stays (`outcome_bad`, `outcome_good`).
use native.Mathlib.Nat.{add-sub_cancel_left}
use native.Mathlib.Omega.{arith}
use mathlib.Core.Path.{◌≡◌, sym}
use lib.ListN.{length}
use lib.Pow.{pow_pos}
use Rattle.rules.specs.Numbers.{zeros}
use Rattle.rules.proofs.Given.{err_given, number_some}
use Rattle.grid.specs.GridOfCall.{grid}
use Rattle.grid_checks.specs.Check.{build_check}
use Rattle.tensor_passes.proofs.MaskTurns.{given_again}
use Rattle.tensor.proofs.Building.{origin_on, build_given_passes, samples_lie}
use Rattle.sheet_in_scratch.proofs.Standing.{refused_before, known, numbers_few, numbers_room, outcome_bad, outcome_good}
use Rattle.sheet_in_scratch.proofs.build_in_scratch.Goals as goal
use Rattle.sheet_in_scratch.proofs.build_in_scratch.Goals.{In_ok-check_build}

-- the check has found nothing
passed : (c : In_ok-check_build)
    → let args = c.args in
    build_check (grid args.axes args.all args.knots.now) args.samples.now args.numbers (length args.scratch.now) ≡ 0
passed c = sym c.in_ok-check_build.ensures

pub returns-in_err-check_build : goal.returns-in_err-check_build
returns-in_err-check_build c =
    rw (err_given c.from_residual.result _ c.from_residual.ensures.1)
    (refused_before _ _ _ _ _ c.in_err-check_build.ensures (number_some _))

pub masks-masks-requires : goal.masks-masks-requires
masks-masks-requires c = omega (arith, (known _ _ _ c.args.scratch.now (passed (goal.at.masks-masks-requires c).In_ok-check_build)).grid_given.in_range.few_axes)

pub store_samples-requires : goal.store_samples-requires
store_samples-requires c =
    let args = c.args in (
      samples_lie _ _ (zeros args.numbers) args.scratch.now (known _ _ _ args.scratch.now (passed (goal.at.store_samples-requires c).In_ok-check_build)) _
          c.masks-masks.ensures.0,
      rw c.masks-masks.ensures.0 (pow_pos args.axes),
    )

pub solve_axes-requires : goal.solve_axes-requires
solve_axes-requires c =
    let args = c.args in
    let given = build_given_passes _ _ (zeros args.numbers) args.scratch.now (known _ _ _ args.scratch.now (passed (goal.at.solve_axes-requires c).In_ok-check_build)) in
    (given_again _ c.store_samples.ensures.same_length given, origin_on given)

pub overflow_add-end : goal.overflow_add-end
overflow_add-end c = omega (arith, numbers_few _ _ _ c.args.scratch.now (passed (goal.at.overflow_add-end c).In_ok-check_build))

pub slice_bounds-any_of_many_not_finite-end : goal.slice_bounds-any_of_many_not_finite-end
slice_bounds-any_of_many_not_finite-end c =
    omega (
      arith,
      numbers_room _ _ _ c.args.scratch.now (passed (goal.at.slice_bounds-any_of_many_not_finite-end c).In_ok-check_build),
      c.solve_axes.ensures.0.same_length,
      c.store_samples.ensures.same_length,
    )

pub returns-then-any_of_many_not_finite : goal.returns-then-any_of_many_not_finite
returns-then-any_of_many_not_finite c =
    outcome_bad _ _ _ c.args.scratch.now (passed (goal.at.returns-then-any_of_many_not_finite c).In_ok-check_build) _ _ _ _ _ _ c.masks-masks.ensures.0
    c.store_samples.ensures c.solve_axes.ensures.0
    (add-sub_cancel_left _ _) c.any_of_many_not_finite.ensures c.if-any_of_many_not_finite.true

pub returns : goal.returns
returns c =
    outcome_good _ _ _ c.args.scratch.now (passed (goal.at.returns c).In_ok-check_build) _ _ _ _ _ _ c.masks-masks.ensures.0
    c.store_samples.ensures c.solve_axes.ensures.0
    (add-sub_cancel_left _ _) c.any_of_many_not_finite.ensures c.if-any_of_many_not_finite.false
