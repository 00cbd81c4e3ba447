-- A periodic axis's first row from its first and last step and slope, operation by operation as the rules have it.
use mathlib.Core.Path.{refl}
use borrow.Author.Rules.{rules}
use Rattle.rules.specs.Steps.{h, s}
use Rattle.axis_rows.proofs.periodic_row.Goals as goal

pub overflow_sub-last : goal.overflow_sub-last
overflow_sub-last c = search rules

pub overflow_sub-last-2 : goal.overflow_sub-last-2
overflow_sub-last-2 c = search rules

pub bounds-x-1 : goal.bounds-x-1
bounds-x-1 c = search rules

pub bounds-x-0 : goal.bounds-x-0
bounds-x-0 c = search rules

pub bounds-y-1 : goal.bounds-y-1
bounds-y-1 c = search rules

pub bounds-y-0 : goal.bounds-y-0
bounds-y-0 c = search rules

pub overflow_add-h_last : goal.overflow_add-h_last
overflow_add-h_last c = search rules

pub offset_bounds-x-last : goal.offset_bounds-x-last
offset_bounds-x-last c = search rules

pub bounds-x-last : goal.bounds-x-last
bounds-x-last c = search rules

pub offset_bounds-x-last-2 : goal.offset_bounds-x-last-2
offset_bounds-x-last-2 c = search rules

pub bounds-x-last-2 : goal.bounds-x-last-2
bounds-x-last-2 c = search rules

pub overflow_add-s_last : goal.overflow_add-s_last
overflow_add-s_last c = search rules

pub offset_bounds-y-last : goal.offset_bounds-y-last
offset_bounds-y-last c = search rules

pub bounds-y-last : goal.bounds-y-last
bounds-y-last c = search rules

pub offset_bounds-y-last-2 : goal.offset_bounds-y-last-2
offset_bounds-y-last-2 c = search rules

pub bounds-y-last-2 : goal.bounds-y-last-2
bounds-y-last-2 c = search rules

pub returns : goal.returns
unfolding h s
returns c = refl
