-- Four stores inside the cell, none of which changes its length: the four numbers stand from `e` on.
use native.Mathlib.Omega.{arith}
use lib.ListN.{length-set}
use Rattle.query_blend.proofs.store_four.Goals as goal

pub bounds-cell-e-2 : goal.bounds-cell-e-2
bounds-cell-e-2 c = simp length-set (omega arith)

pub bounds-cell-e-3 : goal.bounds-cell-e-3
bounds-cell-e-3 c = simp length-set (omega arith)
