use Prim.Native.Nat.{◌+◌, ◌≤◌}
use native.Mathlib.Omega.{arith}
use lib.ListN.{length}
use Rattle.grid.specs.GridOfCall.{points_of}
use Rattle.sheet_write.proofs.Puts.{turn_first, turn_room, turn_given, turn_next, turn_last}
use Rattle.sheet_write.proofs.fields.put_axes.Goals as goal
use Rattle.sheet_write.proofs.fields.put_axes.Goals.{In-loop-i}

-- the knots of the axis at hand are there
room : (c : In-loop-i) → let turn = c.loop-i in
    (turn.from + points_of c.args.all turn.i ≤ length c.args.knots.now)
    × (turn.from + points_of c.args.all turn.i ≤ 1280)
room c =
    let given = c.requires in
    let turn = c.loop-i in (
      turn_room _ _ _ _ _ _ _ turn.invariant c.loop-i-test.true given,
      omega (arith, turn.invariant.small, given.fields.few, given.fields.few_points turn.i c.loop-i-test.true),
    )

pub loop-i-init : goal.loop-i-init
loop-i-init c = turn_first _ _ _

pub offset_bounds-all-i : goal.offset_bounds-all-i
offset_bounds-all-i c = omega (arith, c.requires.fields.few)

pub bounds-all-i : goal.bounds-all-i
bounds-all-i c = omega (arith, c.requires.fields.few)

pub overflow_add-to : goal.overflow_add-to
overflow_add-to c = let fits = room (goal.at.overflow_add-to c).In-loop-i in omega arith

pub offset_bounds-knots-from : goal.offset_bounds-knots-from
offset_bounds-knots-from c = let fits = room (goal.at.offset_bounds-knots-from c).In-loop-i in omega arith

pub slice_bounds-put_axis-count : goal.slice_bounds-put_axis-count
slice_bounds-put_axis-count c = omega arith

pub slice_bounds-put_axis-end : goal.slice_bounds-put_axis-end
slice_bounds-put_axis-end c = let fits = room (goal.at.slice_bounds-put_axis-end c).In-loop-i in omega arith

pub put_axis-at-requires : goal.put_axis-at-requires
put_axis-at-requires c = turn_given _ _ _ _ _ _ _ c.loop-i.invariant c.loop-i-test.true c.requires

pub loop-i-preserved : goal.loop-i-preserved
loop-i-preserved c =
    let turn = c.loop-i in
    let given = c.requires in
    let put = c.put_axis-at.ensures in
    turn_next _ _ _ _ _ _ _ turn.invariant c.loop-i-test.true (given.fields.few_points turn.i c.loop-i-test.true) _ _ put.0
    put.1

pub shape_of-bytes : goal.shape_of-bytes
shape_of-bytes c = c.loop-i.invariant.same_length

pub returns : goal.returns
returns c = turn_last _ _ _ _ _ _ _ c.loop-i.invariant c.loop-i-test.false
