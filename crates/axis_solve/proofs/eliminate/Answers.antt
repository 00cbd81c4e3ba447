use native.Mathlib.Omega.{arith}
use lib.ListN.{length-set}
use Rattle.axis_solve.proofs.Elimination.{turn_first, turn_next, turn_last}
use Rattle.axis_solve.proofs.eliminate.Goals as goal

pub loop-k-init : goal.loop-k-init
loop-k-init c = turn_first _ _ _ c.requires.0 c.requires.1

pub bounds-w-to : goal.bounds-w-to
bounds-w-to c = simp length-set (omega arith)

pub bounds-w-next : goal.bounds-w-next
bounds-w-next c = simp length-set (omega arith)

pub bounds-w-next-in-loop-k : goal.bounds-w-next-in-loop-k
bounds-w-next-in-loop-k c = simp length-set (omega arith)

pub loop-k-preserved : goal.loop-k-preserved
loop-k-preserved c = turn_next _ _ _ _ _ _ _ c.loop-k.invariant c.loop-k-test.true

pub returns : goal.returns
returns c = turn_last _ _ _ _ _ _ _ c.loop-k.invariant c.loop-k-test.false
