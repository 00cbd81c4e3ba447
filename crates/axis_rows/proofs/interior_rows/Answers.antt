use borrow.Author.Rules.{rules}
use native.Mathlib.Omega.{arith}
use lib.ListN.{length-set}
use Rattle.axis_rows.proofs.Interior.{turn_first, turn_next, turn_last}
use Rattle.axis_rows.proofs.interior_rows.Goals as goal

pub overflow_add-h : goal.overflow_add-h
overflow_add-h c = search rules

pub offset_bounds-x-start : goal.offset_bounds-x-start
offset_bounds-x-start c = search rules

pub bounds-x-start : goal.bounds-x-start
bounds-x-start c = search rules

pub offset_bounds-x-start-2 : goal.offset_bounds-x-start-2
offset_bounds-x-start-2 c = search rules

pub bounds-x-start-2 : goal.bounds-x-start-2
bounds-x-start-2 c = search rules

pub overflow_add-s : goal.overflow_add-s
overflow_add-s c = search rules

pub offset_bounds-w-start : goal.offset_bounds-w-start
offset_bounds-w-start c = search rules

pub bounds-w-start : goal.bounds-w-start
bounds-w-start c = search rules

pub offset_bounds-w-start-2 : goal.offset_bounds-w-start-2
offset_bounds-w-start-2 c = search rules

pub bounds-w-start-2 : goal.bounds-w-start-2
bounds-w-start-2 c = search rules

pub loop-j-init : goal.loop-j-init
loop-j-init c =
    let given = c.requires in
    turn_first _ _ _ _ given.0 given.1 given.2

pub overflow_add-i : goal.overflow_add-i
overflow_add-i c = search rules

pub overflow_add-next_h : goal.overflow_add-next_h
overflow_add-next_h c = search rules

pub offset_bounds-x-i : goal.offset_bounds-x-i
offset_bounds-x-i c = search rules

pub bounds-x-i : goal.bounds-x-i
bounds-x-i c = search rules

pub offset_bounds-x-i-in-loop-j : goal.offset_bounds-x-i-in-loop-j
offset_bounds-x-i-in-loop-j c = search rules

pub bounds-x-i-in-loop-j : goal.bounds-x-i-in-loop-j
bounds-x-i-in-loop-j c = search rules

pub overflow_add-next_s : goal.overflow_add-next_s
overflow_add-next_s c = search rules

pub offset_bounds-w-i : goal.offset_bounds-w-i
offset_bounds-w-i c = search rules

pub bounds-w-i : goal.bounds-w-i
bounds-w-i c = search rules

pub offset_bounds-w-i-in-loop-j : goal.offset_bounds-w-i-in-loop-j
offset_bounds-w-i-in-loop-j c = search rules

pub bounds-w-i-in-loop-j : goal.bounds-w-i-in-loop-j
bounds-w-i-in-loop-j c = search rules

pub overflow_add-w : goal.overflow_add-w
overflow_add-w c = search rules

pub offset_bounds-w-j : goal.offset_bounds-w-j
offset_bounds-w-j c = search rules

pub bounds-w-j : goal.bounds-w-j
bounds-w-j c = search rules

pub overflow_add-w-in-loop-j : goal.overflow_add-w-in-loop-j
overflow_add-w-in-loop-j c = search rules

pub offset_bounds-w-j-in-loop-j : goal.offset_bounds-w-j-in-loop-j
offset_bounds-w-j-in-loop-j c = search rules

pub bounds-w-j-in-loop-j : goal.bounds-w-j-in-loop-j
bounds-w-j-in-loop-j c = simp length-set (omega arith)

pub overflow_add-w-in-loop-j-2 : goal.overflow_add-w-in-loop-j-2
overflow_add-w-in-loop-j-2 c = search rules

pub offset_bounds-w-j-in-loop-j-2 : goal.offset_bounds-w-j-in-loop-j-2
offset_bounds-w-j-in-loop-j-2 c = search rules

pub bounds-w-j-in-loop-j-2 : goal.bounds-w-j-in-loop-j-2
bounds-w-j-in-loop-j-2 c = simp length-set (omega arith)

pub overflow_add-w-in-loop-j-3 : goal.overflow_add-w-in-loop-j-3
overflow_add-w-in-loop-j-3 c = search rules

pub offset_bounds-w-j-in-loop-j-3 : goal.offset_bounds-w-j-in-loop-j-3
offset_bounds-w-j-in-loop-j-3 c = search rules

pub bounds-w-j-in-loop-j-3 : goal.bounds-w-j-in-loop-j-3
bounds-w-j-in-loop-j-3 c = simp length-set (omega arith)

pub loop-j-preserved : goal.loop-j-preserved
loop-j-preserved c = turn_next _ _ _ _ _ _ _ _ _ c.loop-j.invariant c.loop-j-test.true

pub shape_of-w : goal.shape_of-w
shape_of-w c = c.loop-j.invariant.same_length

pub returns : goal.returns
returns c = turn_last _ _ _ _ _ _ _ _ _ c.loop-j.invariant c.loop-j-test.false
