use mathlib.Core.Path.{refl, ◌∙◌}
use Prim.Native.Nat.{◌+◌, ◌≤◌}
use native.Mathlib.Omega.{arith}
use lib.ListN.{length}
use Rattle.base_bits.specs.BitsThere.{Within}
use Rattle.sheet_read.specs.FoundSoFar.{Whole}
use Rattle.sheet_read.proofs.Extents.{Extent, extent}
use Rattle.sheet_read.specs.Heads.{SmallHead}
use Rattle.sheet_read.proofs.HeadFields.{small, knots_are, end_is}
use Rattle.sheet_read.proofs.Stores.{turn_first, turn_whole, turn_room, turn_small, part_length, turn_next, turn_last}
use Rattle.sheet_read.proofs.axes.store_knots.Goals as goal
use Rattle.sheet_read.proofs.axes.store_knots.Goals.{After-head_at-head, In-loop}

-- the axis at hand is there
known : (c : In-loop) → let bytes =
    c.args.bytes.now in Whole bytes c.loop.at × Extent bytes c.loop.at
known c = (turn_whole _ _ _ _ _ _ _ _ c.loop.invariant c.loop-test.true refl, extent _ _)

-- its head is there
within : (c : In-loop) → Within c.args.bytes.now c.loop.at (12 + c.args.width)
within c =
    let here = known c in
    let told = c.requires.0 in record { room = omega arith; small = omega arith }

-- and so are the places of its knots
room : (c : After-head_at-head) → let turn =
    c.loop in
    (turn.from + c.head_at-head.result.points ≤ length c.args.knots.now)
    × (turn.from + c.head_at-head.result.points ≤ 1024)
room c =
    let turn = c.loop in
    let is = c.head_at-head.ensures.points in (
      turn_room _ _ _ _ _ _ _ _ turn.invariant c.loop-test.true is,
      turn_small _ _ _ _ _ _ _ _ turn.invariant c.loop-test.true is,
    )

-- places that are small numbers
few : (c : After-head_at-head) → SmallHead c.args.width c.loop.at c.head_at-head.result
few c =
    small _ _ _ c.head_at-head.ensures _ c.requires.0 (turn_whole _ _ _ _ _ _ _ _ c.loop.invariant c.loop-test.true refl).small

pub loop-init : goal.loop-init
loop-init c = turn_first _ _ _ c.requires.1 c.requires.2

pub head_at-head-requires : goal.head_at-head-requires
head_at-head-requires c = (c.requires.0, within (goal.at.head_at-head-requires c).In-loop)

pub overflow_add-to : goal.overflow_add-to
overflow_add-to c = let fits = room (goal.at.overflow_add-to c).After-head_at-head in omega arith

pub knots_from-requires : goal.knots_from-requires
knots_from-requires c = few (goal.at.knots_from-requires c).After-head_at-head

pub offset_bounds-knots-from : goal.offset_bounds-knots-from
offset_bounds-knots-from c = let fits = room (goal.at.offset_bounds-knots-from c).After-head_at-head in omega arith

pub slice_bounds-fill-end : goal.slice_bounds-fill-end
slice_bounds-fill-end c =
    let fits = room (goal.at.slice_bounds-fill-end c).After-head_at-head in
    let same = c.loop.invariant.same_length in omega arith

pub fill-requires : goal.fill-requires
fill-requires c =
    let told = c.requires.0 in
    let here = known (goal.at.fill-requires c).In-loop in
    let begin = c.knots_from.ensures ∙ knots_are _ _ _ c.head_at-head.ensures _ told in
    let points = c.head_at-head.ensures.points in
    rw (part_length _ _ _ _ _ _ _ _ c.loop.invariant c.loop-test.true points)
    (record { room = omega (arith, begin, points); small = omega (arith, begin, points) })

pub after-at-requires : goal.after-at-requires
after-at-requires c = few (goal.at.after-at-requires c).After-head_at-head

pub loop-preserved : goal.loop-preserved
loop-preserved c =
    let told = c.requires.0 in
    let head = c.head_at-head.ensures in
    turn_next _ _ _ _ _ _ _ _ c.loop.invariant c.loop-test.true head.points
    _ _ (c.knots_from.ensures ∙ knots_are _ _ _ head _ told) c.fill.ensures _ (c.after-at.ensures ∙ end_is _ _ _ head _ told)

pub shape_of-knots : goal.shape_of-knots
shape_of-knots c = c.loop.invariant.same_length

pub returns : goal.returns
returns c = turn_last _ _ _ _ _ _ _ c.loop.invariant c.loop-test.false
