use native.Mathlib.Omega.{arith}
use Rattle.tensor_passes.proofs.MaskTurns.{turn_first, pass_given, count_fits, turn_next, turn_last}
use Rattle.tensor_passes.proofs.solve_masks.Goals as goal

pub masks-limit-requires : goal.masks-limit-requires
masks-limit-requires c = let pre = c.requires.0 in omega (arith, pre.in_use, pre.given.in_range.few_axes)

pub loop-mask-init : goal.loop-mask-init
loop-mask-init c = (c.masks-limit.ensures.0, turn_first _ _ _ _ _ _ c.requires)

pub solve_lanes-lanes-requires : goal.solve_lanes-lanes-requires
solve_lanes-lanes-requires c = let turn = c.loop-mask.invariant in pass_given _ _ _ _ _ _ _ _ _ turn.1 (omega (arith, turn.0))

pub overflow_add-lanes : goal.overflow_add-lanes
overflow_add-lanes c =
    let turn = c.loop-mask.invariant in
    omega (arith, count_fits _ _ _ _ _ _ _ _ _ turn.1 _ _ (omega (arith, turn.0)) c.solve_lanes-lanes.ensures)

pub loop-mask-preserved : goal.loop-mask-preserved
loop-mask-preserved c =
    let turn = c.loop-mask.invariant in
    (turn.0, turn_next _ _ _ _ _ _ _ _ _ turn.1 _ _ (omega (arith, turn.0)) c.solve_lanes-lanes.ensures)

pub returns : goal.returns
returns c = let turn = c.loop-mask.invariant in turn_last _ _ _ _ _ _ _ _ _ turn.1 (omega (arith, turn.0))
