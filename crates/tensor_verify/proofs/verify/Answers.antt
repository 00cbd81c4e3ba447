-- A refusal before the work leaves the scratch as it was (`verify_refused`); else the passes over the tensor's own samples leave the fresh
-- one, and by `verify_done` what is told of both is what the rules tell, and the scratch is cleared.
use Prim.Native.Nat.{◌+◌, ◌-◌}
use native.Mathlib.Omega.{arith}
use mathlib.Core.Path.{◌≡◌, sym}
use lib.ListN.{length}
use Rattle.rules.specs.Numbers.{plus_zero}
use Rattle.rules.proofs.Given.{err_given, number_some}
use Rattle.grid.specs.GridOfCall.{grid}
use Rattle.grid_checks.specs.Check.{change_check}
use Rattle.grid_checks.specs.Checked.{ChangeGiven}
use Rattle.tensor_passes.proofs.MaskTurns.{given_again}
use Rattle.tensor.proofs.Building.{origin_on}
use Rattle.tensor_verify.proofs.Checking.{nowhere}
use Rattle.tensor_verify.proofs.Verifying.{part_long, verify_refused, known, given_passes, some_numbers, verify_done}
use Rattle.tensor_verify.proofs.verify.Goals as goal
use Rattle.tensor_verify.proofs.verify.Goals.{In_ok-check_change}

passed : (c : In_ok-check_change)
    → change_check (grid c.args.axes c.args.all c.args.knots.now) c.args.tensor.now
    (length c.args.scratch.now) nowhere plus_zero
    ≡ 0
passed c = sym c.in_ok-check_change.ensures

given : (c : In_ok-check_change)
    → ChangeGiven (grid c.args.axes c.args.all c.args.knots.now) c.args.tensor.now
    (length c.args.scratch.now) nowhere plus_zero
given c = known _ _ c.args.scratch.now (passed c)

pub returns-in_err-check_change : goal.returns-in_err-check_change
returns-in_err-check_change c =
    rw (err_given c.from_residual.result _ c.from_residual.ensures.1)
    (verify_refused _ _ _ _ c.in_err-check_change.ensures (number_some _))

pub bounds-tensor-0 : goal.bounds-tensor-0
bounds-tensor-0 c = some_numbers _ _ c.args.scratch.now (passed (goal.at.bounds-tensor-0 c).In_ok-check_change)

pub load-requires : goal.load-requires
load-requires c =
    let at_in_ok = (goal.at.load-requires c).In_ok-check_change in (
      omega (arith, (given at_in_ok).grid_given.tensor_exact, (given at_in_ok).solve_given.scratch_enough),
      some_numbers _ _ c.args.scratch.now (passed at_in_ok),
    )

pub solve_axes-end-requires : goal.solve_axes-end-requires
solve_axes-end-requires c =
    let work = given_passes _ _ c.args.scratch.now (passed (goal.at.solve_axes-end-requires c).In_ok-check_change) in
    (given_again _ c.load.ensures.same_length work, origin_on work)

pub slice_bounds-held_against-end : goal.slice_bounds-held_against-end
slice_bounds-held_against-end c =
    let at_in_ok = (goal.at.slice_bounds-held_against-end c).In_ok-check_change in
    omega (
      arith,
      c.solve_axes-end.ensures.0.same_length,
      c.load.ensures.same_length,
      (given at_in_ok).grid_given.tensor_exact,
      (given at_in_ok).solve_given.scratch_enough,
    )

pub held_against-verdict-requires : goal.held_against-verdict-requires
held_against-verdict-requires c =
    let at_in_ok = (goal.at.held_against-verdict-requires c).In_ok-check_change in (
      (given at_in_ok).grid_given.in_range,
      part_long (length c.args.tensor.now) c.solve_axes-end.new.w
          (omega (
            arith,
            c.solve_axes-end.ensures.0.same_length,
            c.load.ensures.same_length,
            (given at_in_ok).grid_given.tensor_exact,
            (given at_in_ok).solve_given.scratch_enough,
          )),
      (given at_in_ok).tensor_finite,
    )

pub returns : goal.returns
returns c =
    let whole : 2048 + length c.args.tensor.now - 2048 ≡ length c.args.tensor.now = omega arith in
    verify_done _ _ c.args.scratch.now (passed (goal.at.returns c).In_ok-check_change) _ _ _ _ _ _ c.load.ensures
    c.solve_axes-end.ensures.0
    whole c.held_against-verdict.ensures c.clear.ensures
