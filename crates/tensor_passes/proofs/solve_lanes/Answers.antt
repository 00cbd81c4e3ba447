-- A pass: its walk holds the lanes of the axis at the mask, what `solve_walk` asks stands for them, and what it answers is their count.
use native.Mathlib.Omega.{arith}
use mathlib.Core.Path.{refl}
use Rattle.tensor_passes.proofs.Pass.{sizes_given, knots_are, target_fits, step_fits, lanes_given, solve_given, solve_done}
use Rattle.tensor_passes.proofs.PlannedPasses.{pass_stands}
use Rattle.tensor_passes.proofs.solve_lanes.Goals as goal

pub knots_before-begin-requires : goal.knots_before-begin-requires
knots_before-begin-requires c =
    let pre = c.requires.0 in
    (omega (arith, pre.in_use, pre.given.in_range.few_axes), λ j l. pre.given.in_range.few_points j (omega (arith, pre.in_use)))

pub overflow_add-x : goal.overflow_add-x
overflow_add-x c = omega (arith, (knots_are c.args.axis _ _ c.requires.0.given c.requires.0.in_use c.knots_before-begin.ensures.0 refl).0)

pub offset_bounds-knots-begin : goal.offset_bounds-knots-begin
offset_bounds-knots-begin c = omega (arith, (knots_are c.args.axis _ _ c.requires.0.given c.requires.0.in_use c.knots_before-begin.ensures.0 refl).0)

pub slice_bounds-x-end : goal.slice_bounds-x-end
slice_bounds-x-end c = omega (arith, (knots_are c.args.axis _ _ c.requires.0.given c.requires.0.in_use c.knots_before-begin.ensures.0 refl).0)

pub masks-bit-requires : goal.masks-bit-requires
masks-bit-requires c =
    let pre = c.requires.0 in
    omega (arith, pre.in_use, pre.given.in_range.few_axes)

pub stride-requires : goal.stride-requires
stride-requires c =
    let pre = c.requires.0 in
    (sizes_given pre.given, pre.in_use)

pub masks-requires : goal.masks-requires
masks-requires c =
    let pre = c.requires.0 in
    omega (arith, pre.given.in_range.few_axes)

pub overflow_mul-step : goal.overflow_mul-step
overflow_mul-step c = rw (c.stride.ensures, c.masks.ensures.0) (omega (arith, step_fits _ c.args.whole _ _ _ _ c.requires.0))

pub overflow_add-mask : goal.overflow_add-mask
overflow_add-mask c = omega (arith, c.masks-bit.ensures.0, target_fits _ c.args.whole _ _ _ _ c.requires.0)

pub walk_over-walk-requires : goal.walk_over-walk-requires
walk_over-walk-requires c = lanes_given _ c.args.whole _ _ _ _ c.requires.0

pub solve_walk-requires : goal.solve_walk-requires
solve_walk-requires c =
    let found =
    knots_are c.args.axis _ _ c.requires.0.given c.requires.0.in_use c.knots_before-begin.ensures.0 refl in (
      solve_given _ _ _ _ _ _ c.requires.0 _ _ _ _ _ found.1 found.2 c.condition_at-condition.ensures
          c.masks-bit.ensures.0 (rw (c.stride.ensures, c.masks.ensures.0)) c.walk_over-walk.ensures,
      pass_stands _ _ _ _ _ c.args.mask _ found.1 c.condition_at-condition.ensures c.requires.1,
    )

pub returns : goal.returns
returns c =
    let found =
    knots_are c.args.axis _ _ c.requires.0.given c.requires.0.in_use c.knots_before-begin.ensures.0 refl in
    let done =
    solve_done _ _ _ _ _ _ c.requires.0 _ _ _ _ _ found.1 found.2 c.condition_at-condition.ensures
    c.masks-bit.ensures.0 (rw (c.stride.ensures, c.masks.ensures.0)) c.walk_over-walk.ensures _
    _ c.solve_walk.ensures.0 in
    (done.0, done.1, c.solve_walk.ensures.1)
