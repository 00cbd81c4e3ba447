-- With one interval both moments are +0.0, which `one_interval` says of two stores; with more they are the cyclic solve's.
use native.Mathlib.Omega.{arith}
use lib.ListN.{length-set}
use borrow.Author.Rules.{rules}
use Rattle.axis_moments.proofs.PeriodicLane.{one_interval}
use Rattle.axis_moments.proofs.periodic_moments.Goals as goal

pub bounds-w-1792 : goal.bounds-w-1792
bounds-w-1792 c = search rules

pub overflow_add-w : goal.overflow_add-w
overflow_add-w c = search rules

pub offset_bounds-w : goal.offset_bounds-w
offset_bounds-w c = search rules

pub bounds-w : goal.bounds-w
bounds-w c = simp length-set (omega arith)

pub cyclic_moments-requires : goal.cyclic_moments-requires
cyclic_moments-requires c = search rules

pub shape_of-w-then-x-lt3 : goal.shape_of-w-then-x-lt3
shape_of-w-then-x-lt3 c = search rules

pub returns-then-x-lt3 : goal.returns-then-x-lt3
returns-then-x-lt3 c = one_interval _ _ c.requires (omega arith)

pub shape_of-w-else-x-lt3 : goal.shape_of-w-else-x-lt3
shape_of-w-else-x-lt3 c = search rules

pub returns-else-x-lt3 : goal.returns-else-x-lt3
returns-else-x-lt3 c = search rules
