use native.Mathlib.Omega.{arith}
use Prim.Native.Nat.{◌+◌}
use Rattle.tensor_fours.proofs.Fours.{lane, each}
use Rattle.tensor_four_lanes.proofs.ForwardTurns.{turn_first, turn_next, turn_last}
use Rattle.tensor_four_lanes.proofs.sweeps.forward.Goals as goal

pub overflow_mul-first : goal.overflow_mul-first
overflow_mul-first c = omega (arith, lane c.requires.0.within 0 (omega arith) (c.args.first + 1) (omega arith))

pub load-y-requires : goal.load-y-requires
load-y-requires c = each (λ l lt. omega (arith, lane c.requires.0.within l lt (c.args.first + 1) (omega arith)))

pub loop-k-init : goal.loop-k-init
loop-k-init c =
    let pre = c.requires in
    turn_first _ _ _ _ _ _ _ _ pre.0 pre.1 c.load-y.ensures c.get_row-s.ensures c.get_row-d.ensures

pub overflow_mul-i : goal.overflow_mul-i
overflow_mul-i c =
    omega (
      arith,
      c.loop-k.invariant.same_length,
      lane c.loop-k.invariant.lanes.within 0 (omega arith) (c.loop-k.k + 1 + 1) (omega arith),
    )

pub load-ahead-requires : goal.load-ahead-requires
load-ahead-requires c =
    each
    (λ l lt.
    omega (
      arith,
      c.loop-k.invariant.same_length,
      lane c.loop-k.invariant.lanes.within l lt (c.loop-k.k + 1 + 1) (omega arith),
    ))

pub loop-k-preserved : goal.loop-k-preserved
loop-k-preserved c =
    turn_next _ _ _ _ _ _ _ _ _ _ _ _ c.loop-k.invariant (omega arith) _ _ _ _ c.load-ahead.ensures
    c.minus.ensures c.over-next_s.ensures c.next_helper-next_d.ensures c.set_row.ensures
    c.set_row-in-loop-k.ensures

pub returns : goal.returns
returns c = turn_last _ _ _ _ _ _ _ _ _ _ c.loop-k.invariant (omega arith)
