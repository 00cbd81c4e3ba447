-- The masks of one axis, by its plan or without: making the plan leaves the working tensor alone, so by `axis_passed` the slopes are
-- of the numbers that stood before it. The count of lanes is that of these passes.
use native.Mathlib.Omega.{arith}
use mathlib.Core.Path.{refl}
use Rattle.tensor_passes.proofs.Pass.{knots_are}
use Rattle.tensor_passes.proofs.PlannedAxis.{points_enough, masks_given, axis_passed}
use Rattle.tensor_passes.proofs.solve_along.Goals as goal

pub knots_before-from-requires : goal.knots_before-from-requires
knots_before-from-requires c =
    let pre = c.requires in
    (omega (arith, pre.in_use, pre.given.in_range.few_axes), λ j l. pre.given.in_range.few_points j (omega (arith, pre.in_use)))

pub overflow_add-from : goal.overflow_add-from
overflow_add-from c = omega (arith, (knots_are c.args.axis _ _ c.requires.given c.requires.in_use c.knots_before-from.ensures.0 refl).0)

pub slice_bounds-plan_for-end : goal.slice_bounds-plan_for-end
slice_bounds-plan_for-end c = omega (arith, (knots_are c.args.axis _ _ c.requires.given c.requires.in_use c.knots_before-from.ensures.0 refl).0)

pub plan_for-plan-requires : goal.plan_for-plan-requires
plan_for-plan-requires c =
    let found = knots_are c.args.axis _ _ c.requires.given c.requires.in_use c.knots_before-from.ensures.0 refl in
    points_enough _ _ _ _ _ c.requires found.1 found.2

pub solve_masks-requires : goal.solve_masks-requires
solve_masks-requires c =
    let found = knots_are c.args.axis _ _ c.requires.given c.requires.in_use c.knots_before-from.ensures.0 refl in
    masks_given _ _ _ _ _ c.requires found.1 found.2 _ _ c.plan_for-plan.ensures

pub returns : goal.returns
returns c =
    let found = knots_are c.args.axis _ _ c.requires.given c.requires.in_use c.knots_before-from.ensures.0 refl in (
      axis_passed _ _ _ _ _ c.requires found.1 found.2 _ _ c.plan_for-plan.ensures _ _ _ c.solve_masks.ensures.0,
      c.solve_masks.ensures.1,
    )
