use native.Mathlib.Omega.{arith}
use Prim.Native.Nat.{◌+◌}
use Rattle.tensor_fours.proofs.Fours.{lane, each}
use Rattle.tensor_four_lanes.proofs.SlopeTurns.{turn_first, turn_next, turn_last}
use Rattle.tensor_four_lanes.proofs.sweeps.slopes.Goals as goal

pub overflow_mul-from : goal.overflow_mul-from
overflow_mul-from c = omega (arith, lane c.requires.0.within 0 (omega arith) c.args.from (omega arith))

pub load-y-requires : goal.load-y-requires
load-y-requires c = each (λ l lt. omega (arith, lane c.requires.0.within l lt c.args.from (omega arith)))

pub loop-k-init : goal.loop-k-init
loop-k-init c = turn_first _ _ _ _ _ _ c.requires.0 c.requires.1 c.load-y.ensures

pub overflow_mul-k : goal.overflow_mul-k
overflow_mul-k c =
    omega (
      arith,
      c.loop-k.invariant.same_length,
      lane c.loop-k.invariant.lanes.within 0 (omega arith) (c.loop-k.k + 1) (omega arith),
    )

pub load-next-requires : goal.load-next-requires
load-next-requires c =
    each
    (λ l lt.
    omega (
      arith,
      c.loop-k.invariant.same_length,
      lane c.loop-k.invariant.lanes.within l lt (c.loop-k.k + 1) (omega arith),
    ))

pub loop-k-preserved : goal.loop-k-preserved
loop-k-preserved c =
    turn_next _ _ _ _ _ _ _ _ _ c.loop-k.invariant c.loop-k-test.true _ _ _ c.load-next.ensures c.minus.ensures
    c.over-s.ensures c.set_row.ensures

pub returns : goal.returns
returns c = turn_last _ _ _ _ _ _ _ _ c.loop-k.invariant c.loop-k-test.false
