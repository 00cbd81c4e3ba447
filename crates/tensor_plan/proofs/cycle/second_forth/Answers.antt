use native.Mathlib.Omega.{arith}
use mathlib.Core.Path.{◌≡◌}
use Prim.Native.Nat.{◌-◌}
use lib.ListN.{length-set}
use Rattle.tensor_plan.proofs.SecondTurns.{forth_first, forth_next, forth_last}
use Rattle.tensor_plan.proofs.cycle.second_forth.Goals as goal

pub loop-k-init : goal.loop-k-init
loop-k-init c = forth_first _ _ _ c.requires.0 c.requires.1

pub bounds-w-k-in-loop-k : goal.bounds-w-k-in-loop-k
bounds-w-k-in-loop-k c = simp length-set (omega arith)

pub bounds-w-k-in-loop-k-2 : goal.bounds-w-k-in-loop-k-2
bounds-w-k-in-loop-k-2 c = simp length-set (omega arith)

pub loop-k-preserved : goal.loop-k-preserved
loop-k-preserved c = forth_next _ _ _ _ _ _ c.loop-k.invariant (omega arith)

pub returns : goal.returns
returns c =
    let e : c.args.l - 1 ≡ c.loop-k.k = omega (arith, c.loop-k.invariant.most) in
    rw e (forth_last _ _ _ _ _ _ c.loop-k.invariant (omega arith))
