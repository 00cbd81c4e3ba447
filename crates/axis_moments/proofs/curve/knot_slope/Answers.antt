-- The slope at a knot is that of the rules: before the last knot from the interval after it, at the last from the one before.
use borrow.Author.Rules.{rules}
use borrow.Author.Tests.{lt-ltb, le-ltb}
use Rattle.rules.specs.Curve.{knot_slope}
use Rattle.axis_moments.proofs.curve.knot_slope.Goals as goal

pub overflow_sub-n : goal.overflow_sub-n
overflow_sub-n c = search rules

pub overflow_add-h : goal.overflow_add-h
overflow_add-h c = search rules

pub offset_bounds-x-i : goal.offset_bounds-x-i
offset_bounds-x-i c = search rules

pub bounds-x-i : goal.bounds-x-i
bounds-x-i c = search rules

pub offset_bounds-x-i-then-i-n : goal.offset_bounds-x-i-then-i-n
offset_bounds-x-i-then-i-n c = search rules

pub bounds-x-i-then-i-n : goal.bounds-x-i-then-i-n
bounds-x-i-then-i-n c = search rules

pub overflow_add-result : goal.overflow_add-result
overflow_add-result c = search rules

pub offset_bounds-y-i : goal.offset_bounds-y-i
offset_bounds-y-i c = search rules

pub bounds-y-i : goal.bounds-y-i
bounds-y-i c = search rules

pub offset_bounds-y-i-then-i-n : goal.offset_bounds-y-i-then-i-n
offset_bounds-y-i-then-i-n c = search rules

pub bounds-y-i-then-i-n : goal.bounds-y-i-then-i-n
bounds-y-i-then-i-n c = search rules

pub offset_bounds-m-i : goal.offset_bounds-m-i
offset_bounds-m-i c = search rules

pub bounds-m-i : goal.bounds-m-i
bounds-m-i c = search rules

pub overflow_add-result-then-i-n : goal.overflow_add-result-then-i-n
overflow_add-result-then-i-n c = search rules

pub offset_bounds-m-i-then-i-n : goal.offset_bounds-m-i-then-i-n
offset_bounds-m-i-then-i-n c = search rules

pub bounds-m-i-then-i-n : goal.bounds-m-i-then-i-n
bounds-m-i-then-i-n c = search rules

pub overflow_sub-last : goal.overflow_sub-last
overflow_sub-last c = search rules

pub overflow_add-h-else-i-n : goal.overflow_add-h-else-i-n
overflow_add-h-else-i-n c = search rules

pub offset_bounds-x-last : goal.offset_bounds-x-last
offset_bounds-x-last c = search rules

pub bounds-x-last : goal.bounds-x-last
bounds-x-last c = search rules

pub offset_bounds-x-last-else-i-n : goal.offset_bounds-x-last-else-i-n
offset_bounds-x-last-else-i-n c = search rules

pub bounds-x-last-else-i-n : goal.bounds-x-last-else-i-n
bounds-x-last-else-i-n c = search rules

pub overflow_add-result-else-i-n : goal.overflow_add-result-else-i-n
overflow_add-result-else-i-n c = search rules

pub offset_bounds-y-last : goal.offset_bounds-y-last
offset_bounds-y-last c = search rules

pub bounds-y-last : goal.bounds-y-last
bounds-y-last c = search rules

pub offset_bounds-y-last-else-i-n : goal.offset_bounds-y-last-else-i-n
offset_bounds-y-last-else-i-n c = search rules

pub bounds-y-last-else-i-n : goal.bounds-y-last-else-i-n
bounds-y-last-else-i-n c = search rules

pub offset_bounds-m-last : goal.offset_bounds-m-last
offset_bounds-m-last c = search rules

pub bounds-m-last : goal.bounds-m-last
bounds-m-last c = search rules

pub offset_bounds-m-n : goal.offset_bounds-m-n
offset_bounds-m-n c = search rules

pub bounds-m-n : goal.bounds-m-n
bounds-m-n c = search rules

pub returns-then-i-n : goal.returns-then-i-n
unfolding knot_slope
returns-then-i-n c = simp (lt-ltb _ _ c.if-i-n.true)

pub returns-else-i-n : goal.returns-else-i-n
unfolding knot_slope
returns-else-i-n c = simp (le-ltb _ _ c.if-i-n.false)
