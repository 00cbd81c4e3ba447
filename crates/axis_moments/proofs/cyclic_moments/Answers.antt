-- The periodic row and those behind it are the rows of the rules, so by `cyclic_solved` the cyclic solve leaves their moments;
-- the last is stored from the first.
use native.Mathlib.Omega.{arith}
use native.Mathlib.Nat.{sub-zero}
use lib.ListN.{length-set}
use borrow.Author.Rules.{rules}
use Rattle.rules.specs.Steps.{h}
use Rattle.axis_moments.proofs.PeriodicLane.{cyclic_solved}
use Rattle.axis_moments.proofs.cyclic_moments.Goals as goal

pub overflow_sub-n : goal.overflow_sub-n
overflow_sub-n c = search rules

pub overflow_sub-last : goal.overflow_sub-last
overflow_sub-last c = search rules

pub slice_bounds-periodic_row-count : goal.slice_bounds-periodic_row-count
slice_bounds-periodic_row-count c = search rules

pub periodic_row-row-requires : goal.periodic_row-row-requires
periodic_row-row-requires c = search rules

pub interior_rows-requires : goal.interior_rows-requires
interior_rows-requires c = search rules

pub first_row-requires : goal.first_row-requires
first_row-requires c = search rules

pub overflow_add-last : goal.overflow_add-last
overflow_add-last c = search rules

pub offset_bounds-x-last : goal.offset_bounds-x-last
offset_bounds-x-last c = search rules

pub bounds-x-last : goal.bounds-x-last
bounds-x-last c = search rules

pub offset_bounds-x-last-2 : goal.offset_bounds-x-last-2
offset_bounds-x-last-2 c = search rules

pub bounds-x-last-2 : goal.bounds-x-last-2
bounds-x-last-2 c = search rules

pub cyclic_thomas-requires : goal.cyclic_thomas-requires
cyclic_thomas-requires c = search rules

pub bounds-w-1792 : goal.bounds-w-1792
bounds-w-1792 c = search rules

pub overflow_add-w : goal.overflow_add-w
overflow_add-w c = search rules

pub offset_bounds-w-n : goal.offset_bounds-w-n
offset_bounds-w-n c = search rules

pub bounds-w-n : goal.bounds-w-n
bounds-w-n c = search rules

pub shape_of-w : goal.shape_of-w
shape_of-w c =
    simp length-set
    (omega (
      arith,
      c.interior_rows.ensures.same_length,
      c.first_row.ensures.same_length,
      c.cyclic_thomas.ensures.same_length,
    ))

pub returns : goal.returns
unfolding h
returns c =
    let row = rw sub-zero at c.periodic_row-row.ensures in
    cyclic_solved _ _ _ _ _
    c.requires.0
    c.requires.1
    c.interior_rows.ensures
    (rw row at c.first_row.ensures)
    c.cyclic_thomas.ensures
