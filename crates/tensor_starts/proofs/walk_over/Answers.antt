use native.Mathlib.Omega.{arith}
use Rattle.tensor_starts.proofs.Agreement.{varies_not_own}
use Rattle.tensor_starts.proofs.Axes.{walked_first, turn_given, turn_next, end_given, end_walks}
use Rattle.tensor_starts.proofs.walk_over.Goals as goal

pub loop-j-init : goal.loop-j-init
loop-j-init c = walked_first _ _ _ _

pub offset_bounds-all-j : goal.offset_bounds-all-j
offset_bounds-all-j c = omega (arith, c.requires.in_range.few_axes)

pub bounds-all-j : goal.bounds-all-j
bounds-all-j c = omega (arith, c.requires.in_range.few_axes)

pub varies-through-requires : goal.varies-through-requires
varies-through-requires c = omega (arith, c.requires.in_range.few_axes)

pub start_index-index-requires : goal.start_index-index-requires
start_index-index-requires c = omega (arith, c.requires.in_range.few_axes)

pub on_one_more-walk-requires : goal.on_one_more-walk-requires
on_one_more-walk-requires c =
    turn_given _ _ _ _ _ _ c.requires _ _ c.loop-j.invariant
    c.loop-j-test.true _ c.start_index-index.ensures

pub loop-j-preserved : goal.loop-j-preserved
loop-j-preserved c =
    let args = c.args in
    turn_next _ _ _ _ _ _ c.requires _ _ c.loop-j.invariant c.loop-j-test.true
    (varies_not_own args.whole args.target args.axis _) _ c.varies-through.ensures _
    c.start_index-index.ensures _ c.on_one_more-walk.ensures

pub masks-requires : goal.masks-requires
masks-requires c = omega (arith, c.requires.in_range.few_axes)

pub on_one_more-requires : goal.on_one_more-requires
on_one_more-requires c =
    end_given _ _ _ _ _ _ c.requires _ _ c.loop-j.invariant (omega arith) _
    c.masks.ensures.0

pub returns : goal.returns
returns c =
    end_walks _ _ _ _ _ _ c.requires _ _ c.loop-j.invariant
    (omega arith) _ c.masks.ensures.0 _
    c.on_one_more.ensures
