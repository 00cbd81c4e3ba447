-- Row `k` holds the four numbers and every other place keeps its own: `row_set`.
use native.Mathlib.Omega.{arith}
use lib.ListN.{length-set}
use Rattle.tensor_fours.proofs.Fours.{row_set}
use Rattle.tensor_fours.proofs.set_row.Goals as goal

pub bounds-w-i-2 : goal.bounds-w-i-2
bounds-w-i-2 c = simp length-set (omega arith)

pub bounds-w-i-3 : goal.bounds-w-i-3
bounds-w-i-3 c = simp length-set (omega arith)

pub bounds-w-i-4 : goal.bounds-w-i-4
bounds-w-i-4 c = simp length-set (omega arith)

pub returns : goal.returns
returns c = row_set _ _ _ _ c.requires
