use native.Mathlib.Omega.{arith}
use Rattle.tensor_walks.proofs.WalkTurns.{turn_first, inside, lane_given, next_given, turn_next, turn_last}
use Rattle.tensor_walks.proofs.solve_singly.Goals as goal

pub first-cursor-requires : goal.first-cursor-requires
first-cursor-requires c = let given = c.requires in (given.some_inner, given.some_middle)

pub loop-cursor-init : goal.loop-cursor-init
loop-cursor-init c = turn_first _ _ _ _ _ _ _ c.requires c.first-cursor.ensures

pub overflow_add-from : goal.overflow_add-from
overflow_add-from c = let turn = c.loop-cursor.invariant in omega (arith, inside _ _ _ _ _ _ _ _ turn c.loop-cursor-test.true)

pub overflow_add-from-in-loop-cursor : goal.overflow_add-from-in-loop-cursor
overflow_add-from-in-loop-cursor c =
    let turn = c.loop-cursor.invariant in
    omega (arith, inside _ _ _ _ _ _ _ _ turn c.loop-cursor-test.true)

pub solve_lane-requires : goal.solve_lane-requires
solve_lane-requires c = lane_given _ _ _ _ _ _ _ _ c.loop-cursor.invariant c.loop-cursor-test.true

pub next-cursor-requires : goal.next-cursor-requires
next-cursor-requires c = next_given _ _ _ _ _ _ _ _ c.loop-cursor.invariant c.loop-cursor-test.true

pub loop-cursor-smaller : goal.loop-cursor-smaller
loop-cursor-smaller c = omega (arith, c.next-cursor.ensures.0, c.loop-cursor-test.true)

pub loop-cursor-preserved : goal.loop-cursor-preserved
loop-cursor-preserved c = turn_next _ _ _ _ _ _ _ _ c.loop-cursor.invariant _ c.loop-cursor-test.true c.solve_lane.ensures _ c.next-cursor.ensures

pub returns : goal.returns
returns c = turn_last _ _ _ _ _ _ _ _ c.loop-cursor.invariant c.loop-cursor-test.false
