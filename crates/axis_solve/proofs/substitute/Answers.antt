use native.Mathlib.Omega.{arith}
use Prim.Native.Nat.{◌≤◌}
use native.Mathlib.Nat.{sub-add_cancel}
use lib.ListN.{length-set}
use Rattle.axis_solve.proofs.Substitution.{turn_first, turn_next, turn_last}
use Rattle.axis_solve.proofs.substitute.Goals as goal

pub loop-k-init : goal.loop-k-init
loop-k-init c = turn_first _ _ _ _ c.requires.0 c.requires.1

pub bounds-w-to-in-loop-k : goal.bounds-w-to-in-loop-k
bounds-w-to-in-loop-k c = simp length-set (omega arith)

pub bounds-w-k : goal.bounds-w-k
bounds-w-k c = simp length-set (omega arith)

pub loop-k-preserved : goal.loop-k-preserved
loop-k-preserved c = rw (sub-add_cancel (let h : 1 ≤ c.loop-k.k = omega arith in h)) (turn_next _ _ _ _ _ _ _ c.loop-k.invariant (omega arith))

pub returns : goal.returns
returns c = turn_last _ _ _ _ _ _ _ c.loop-k.invariant c.loop-k-test.false
