use native.Mathlib.Omega.{arith}
use Rattle.tensor_fours.proofs.Fours.{lane, each}
use Rattle.tensor_four_lanes.proofs.StoreTurns.{turn_first, turn_next, turn_last}
use Rattle.tensor_four_lanes.proofs.sweeps.store_inner_slopes.Goals as goal

pub loop-k-init : goal.loop-k-init
loop-k-init c = turn_first _ _ _ _ _ _ c.requires c.get_row-m.ensures

pub overflow_mul-k : goal.overflow_mul-k
overflow_mul-k c = omega (arith, c.loop-k.invariant.same_length, lane c.loop-k.invariant.lanes.within 0 (omega arith) c.loop-k.k (omega arith))

pub overflow_add-to : goal.overflow_add-to
overflow_add-to c = omega (arith, c.loop-k.invariant.same_length, lane c.loop-k.invariant.lanes.within 0 (omega arith) c.loop-k.k (omega arith))

pub store-requires : goal.store-requires
store-requires c =
    each
    (λ l lt.
    omega (
      arith,
      c.set_row.ensures.same_length,
      c.loop-k.invariant.same_length,
      lane c.loop-k.invariant.lanes.within l lt c.loop-k.k (omega arith),
    ))

pub loop-k-preserved : goal.loop-k-preserved
loop-k-preserved c =
    turn_next _ _ _ _ _ _ _ _ _ _ c.loop-k.invariant c.loop-k-test.true _ _ _ c.get_row-next.ensures
    c.get_row-s.ensures c.inner_slope-r.ensures c.set_row.ensures c.store.ensures

pub returns : goal.returns
returns c = turn_last _ _ _ _ _ _ _ _ c.loop-k.invariant c.loop-k-test.false
