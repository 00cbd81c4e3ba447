use mathlib.Core.Path.{◌≡◌, sym}
use Prim.Native.Nat.{◌+◌, ◌*◌, ◌/◌, ◌^◌, ◌<◌}
use native.Mathlib.Omega.{arith}
use lib.ListN.{length}
use Rattle.report_totals.specs.Counting.{of_mask, Room}
use Rattle.report_totals.proofs.Masks.{turn_first, first_room, second_room, turn_next, turn_last, masks_even, five_orders}
use Rattle.report_totals.proofs.tally.Goals as goal
use Rattle.report_totals.proofs.tally.Goals.{After-count_masks-two, In-loop-pair}

-- both masks are there
both : (l : In-loop-pair) → 2 * l.loop-pair.pair + 1 < 2 ^ l.args.axes
both l = omega (arith, l.masks-masks.ensures.0, l.loop-pair-test.true)

room : (l : In-loop-pair)
    → let s = l.args in Room s.orders (length s.tensor.now / 2 ^ s.axes * 2 ^ s.axes)
room l = rw (← l.requires.0.whole) l.requires.1

-- what two masks have, by the power of two that the masks are
counted : (b : After-count_masks-two)
    → let s = b.args in
    let mask = 2 * b.loop-pair.pair in
    let places = length s.tensor.now / 2 ^ s.axes in
    (b.count_masks-two.result.first ≡ of_mask (2 ^ s.axes) mask s.tensor.now places)
    × (b.count_masks-two.result.second ≡ of_mask (2 ^ s.axes) (mask + 1) s.tensor.now places)
counted b = rw b.masks-masks.ensures.0 at b.count_masks-two.ensures

pub loop-pair-init : goal.loop-pair-init
loop-pair-init c = turn_first _ _ _ _ (five_orders _ _ c.requires.1)

pub together-requires : goal.together-requires
together-requires c =
    first_room _ _ _ _ _ _ c.loop-pair.invariant (both (goal.at.together-requires c).In-loop-pair) _ (counted (goal.at.together-requires c).After-count_masks-two).0 _ c.order_of_mask-k.ensures.0
    c.order_of_mask-k.ensures.1 (room (goal.at.together-requires c).In-loop-pair)

pub together-requires-in-loop-pair : goal.together-requires-in-loop-pair
together-requires-in-loop-pair c =
    second_room _ _ _ _ _ _ c.loop-pair.invariant (both (goal.at.together-requires-in-loop-pair c).In-loop-pair) _ (counted (goal.at.together-requires-in-loop-pair c).After-count_masks-two).0 _ c.order_of_mask-k.ensures.0
    c.order_of_mask-k.ensures.1 _ c.together.ensures _ (counted (goal.at.together-requires-in-loop-pair c).After-count_masks-two).1 _ c.order_of_mask-next.ensures.0
    c.order_of_mask-next.ensures.1 (room (goal.at.together-requires-in-loop-pair c).In-loop-pair)

pub loop-pair-preserved : goal.loop-pair-preserved
loop-pair-preserved c =
    turn_next _ _ _ _ _ _ c.loop-pair.invariant (both (goal.at.loop-pair-preserved c).In-loop-pair) _ (counted (goal.at.loop-pair-preserved c).After-count_masks-two).0 _ c.order_of_mask-k.ensures.0
    c.order_of_mask-k.ensures.1 _ c.together.ensures _ (counted (goal.at.loop-pair-preserved c).After-count_masks-two).1 _ c.order_of_mask-next.ensures.0
    c.order_of_mask-next.ensures.1 _ c.together-in-loop-pair.ensures

pub returns : goal.returns
returns c =
    turn_last _ _ _ _ _ _ c.loop-pair.invariant
    (omega (arith, c.masks-masks.ensures.0, (masks_even _ c.requires.0.some).1, c.loop-pair.auto.pair-end, c.loop-pair-test.false))
    (sym c.requires.0.whole)
