-- Three ways out, each kept to the promise: refused before the work (`change_refused`), 10 after it with no lane counted
-- (`change_stopped`), or the changed tensor stored and its lanes counted (`change_done`). `spot_is` says where the new sample goes.
use native.Mathlib.Omega.{arith}
use mathlib.Core.Path.{◌≡◌, refl, sym}
use lib.ListN.{length}
use Rattle.rules.specs.Sizes.{place_of}
use Rattle.rules.proofs.Given.{err_given, number_some}
use Rattle.grid_checks.specs.Checked.{ChangeGiven}
use Rattle.grid.specs.GridOfCall.{grid}
use Rattle.grid_checks.specs.Check.{change_check}
use Rattle.grid_checks.proofs.Accepted.{change_given}
use Rattle.tensor_passes.proofs.Pass.{sizes_given}
use Rattle.tensor_passes.proofs.MaskTurns.{given_again}
use Rattle.tensor.proofs.Changing.{change_refused, change_given_passes, spot_is, changed_inside, changed_small, change_stopped, change_done}
use Rattle.tensor.proofs.change.Goals as goal
use Rattle.tensor.proofs.change.Goals.{In_ok-check_change}

passed : (c : In_ok-check_change)
    → change_check (grid c.args.axes c.args.all c.args.knots.now) c.args.tensor.now
    (length c.args.scratch.now) (place_of c.args.place) c.args.sample
    ≡ 0
passed c = sym c.in_ok-check_change.ensures

known : (c : In_ok-check_change)
    → ChangeGiven (grid c.args.axes c.args.all c.args.knots.now) c.args.tensor.now
    (length c.args.scratch.now) (place_of c.args.place) c.args.sample
known c = change_given _ _ _ _ _ (passed c)

pub returns-in_err-check_change : goal.returns-in_err-check_change
returns-in_err-check_change c =
    rw (err_given c.from_residual.result _ c.from_residual.ensures.1)
    (change_refused _ _ _ _ _ _ c.in_err-check_change.ensures (number_some _))

pub place_number-requires : goal.place_number-requires
place_number-requires c =
    let at_in_ok = (goal.at.place_number-requires c).In_ok-check_change in
    (sizes_given (change_given_passes _ _ c.args.scratch.now _ _ (known at_in_ok)), (known at_in_ok).on_the_grid)

pub masks-requires : goal.masks-requires
masks-requires c = omega (arith, (known (goal.at.masks-requires c).In_ok-check_change).grid_given.in_range.few_axes)

pub overflow_mul-spot : goal.overflow_mul-spot
overflow_mul-spot c =
    let at_in_ok = (goal.at.overflow_mul-spot c).In_ok-check_change in
    let scratch = c.args.scratch.now in
    omega (
      arith,
      spot_is _ _ scratch _ _ (known at_in_ok) _ _ c.place_number.ensures c.masks.ensures.0,
      changed_small _ _ scratch _ _ (known at_in_ok),
    )

pub load-requires : goal.load-requires
load-requires c =
    let at_in_ok = (goal.at.load-requires c).In_ok-check_change in
    let scratch = c.args.scratch.now in (
      omega (arith, (known at_in_ok).grid_given.tensor_exact, (known at_in_ok).solve_given.scratch_enough),
      rw (spot_is _ _ scratch _ _ (known at_in_ok) _ _ c.place_number.ensures c.masks.ensures.0)
          (changed_inside _ _ scratch _ _ (known at_in_ok)),
    )

pub solve_axes-lanes-requires : goal.solve_axes-lanes-requires
solve_axes-lanes-requires c =
    let at_in_ok = (goal.at.solve_axes-lanes-requires c).In_ok-check_change in (
      given_again _ c.load.ensures.same_length (change_given_passes _ _ c.args.scratch.now _ _ (known at_in_ok)),
      (known at_in_ok).on_the_grid,
    )

pub finish-requires : goal.finish-requires
finish-requires c =
    let at_in_ok = (goal.at.finish-requires c).In_ok-check_change in
    omega (
      arith,
      c.solve_axes-lanes.ensures.0.same_length,
      c.load.ensures.same_length,
      (known at_in_ok).grid_given.tensor_exact,
      (known at_in_ok).solve_given.scratch_enough,
    )

pub returns-in_err-finish : goal.returns-in_err-finish
returns-in_err-finish c =
    let at_in_ok = (goal.at.returns-in_err-finish c).In_ok-check_change in
    let scratch = c.args.scratch.now in
    rw (err_given c.from_residual-in_err-finish.result _ c.from_residual-in_err-finish.ensures.1)
    (change_stopped _ _ scratch _ _ (known at_in_ok) _ _ _ _ _ _ _ (passed at_in_ok)
    (spot_is _ _ scratch _ _ (known at_in_ok) _ _ c.place_number.ensures c.masks.ensures.0)
    c.load.ensures c.solve_axes-lanes.ensures c.in_err-finish.ensures (number_some _))

pub returns : goal.returns
returns c =
    let at_in_ok = (goal.at.returns c).In_ok-check_change in
    let scratch = c.args.scratch.now in
    change_done _ _ scratch _ _ (known at_in_ok) _ _ _ _ _ _ _ (passed at_in_ok)
    (spot_is _ _ scratch _ _ (known at_in_ok) _ _ c.place_number.ensures c.masks.ensures.0)
    c.load.ensures c.solve_axes-lanes.ensures c.in_ok-finish.ensures refl
