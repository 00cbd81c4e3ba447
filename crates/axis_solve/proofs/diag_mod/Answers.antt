-- Two stores: gamma is taken from the diagonal's first number, corner squared over gamma from its last, and all else stands.
use native.Mathlib.Omega.{arith}
use lib.ListN.{length-set}
use Rattle.axis_solve.proofs.Corners.{without_corners}
use Rattle.axis_solve.proofs.diag_mod.Goals as goal

pub bounds-w-l : goal.bounds-w-l
bounds-w-l c = simp length-set (omega arith)

pub bounds-w-l-2 : goal.bounds-w-l-2
bounds-w-l-2 c = simp length-set (omega arith)

pub returns : goal.returns
returns c = without_corners _ _ _ _ c.requires.0 c.requires.1
