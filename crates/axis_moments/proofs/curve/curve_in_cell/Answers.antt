-- Every number read lies inside knots, samples and moments, and the sum, term by term, is the cubic of the rules in cell `i`.
use mathlib.Core.Path.{refl}
use borrow.Author.Rules.{rules}
use Rattle.rules.specs.Curve.{curve_in_cell}
use Rattle.axis_moments.proofs.curve.curve_in_cell.Goals as goal

pub overflow_add-h : goal.overflow_add-h
overflow_add-h c = search rules

pub offset_bounds-x-i : goal.offset_bounds-x-i
offset_bounds-x-i c = search rules

pub bounds-x-i : goal.bounds-x-i
bounds-x-i c = search rules

pub offset_bounds-x-i-2 : goal.offset_bounds-x-i-2
offset_bounds-x-i-2 c = search rules

pub bounds-x-i-2 : goal.bounds-x-i-2
bounds-x-i-2 c = search rules

pub offset_bounds-x-i-3 : goal.offset_bounds-x-i-3
offset_bounds-x-i-3 c = search rules

pub bounds-x-i-3 : goal.bounds-x-i-3
bounds-x-i-3 c = search rules

pub offset_bounds-m-i : goal.offset_bounds-m-i
offset_bounds-m-i c = search rules

pub bounds-m-i : goal.bounds-m-i
bounds-m-i c = search rules

pub overflow_add-result : goal.overflow_add-result
overflow_add-result c = search rules

pub offset_bounds-m-i-2 : goal.offset_bounds-m-i-2
offset_bounds-m-i-2 c = search rules

pub bounds-m-i-2 : goal.bounds-m-i-2
bounds-m-i-2 c = search rules

pub offset_bounds-y-i : goal.offset_bounds-y-i
offset_bounds-y-i c = search rules

pub bounds-y-i : goal.bounds-y-i
bounds-y-i c = search rules

pub offset_bounds-m-i-3 : goal.offset_bounds-m-i-3
offset_bounds-m-i-3 c = search rules

pub bounds-m-i-3 : goal.bounds-m-i-3
bounds-m-i-3 c = search rules

pub overflow_add-result-2 : goal.overflow_add-result-2
overflow_add-result-2 c = search rules

pub offset_bounds-y-i-2 : goal.offset_bounds-y-i-2
offset_bounds-y-i-2 c = search rules

pub bounds-y-i-2 : goal.bounds-y-i-2
bounds-y-i-2 c = search rules

pub overflow_add-result-3 : goal.overflow_add-result-3
overflow_add-result-3 c = search rules

pub offset_bounds-m-i-4 : goal.offset_bounds-m-i-4
offset_bounds-m-i-4 c = search rules

pub bounds-m-i-4 : goal.bounds-m-i-4
bounds-m-i-4 c = search rules

pub returns : goal.returns
unfolding curve_in_cell
returns c = refl
