use native.Mathlib.Omega.{arith}
use mathlib.Core.Path.{refl}
use Prim.Native.Nat.{◌+◌, ◌*◌, ◌<◌}
use lib.ListN.{length}
use Rattle.tensor_lane.proofs.Storing.{turn_first, turn_next, turn_last}
use Rattle.tensor.proofs.working.store_samples.Goals as goal
use Rattle.tensor.proofs.working.store_samples.Goals.{After-shared_slice_known-1}

-- sample k has a place
inside : (c : After-shared_slice_known-1)
    → 2048 + c.loop-k.k * c.args.masks < length c.args.w.now
inside c = c.loop-k.invariant.lies.within c.loop-k.k (omega arith)

pub loop-k-init : goal.loop-k-init
loop-k-init c = turn_first _ _ _ _ _ c.requires.0 c.requires.1

pub overflow_mul-w : goal.overflow_mul-w
overflow_mul-w c = omega (arith, inside (goal.at.overflow_mul-w c).After-shared_slice_known-1)

pub overflow_add-w : goal.overflow_add-w
overflow_add-w c = omega (arith, inside (goal.at.overflow_add-w c).After-shared_slice_known-1)

pub offset_bounds-w-k : goal.offset_bounds-w-k
offset_bounds-w-k c = omega (arith, inside (goal.at.offset_bounds-w-k c).After-shared_slice_known-1)

pub bounds-w-k : goal.bounds-w-k
bounds-w-k c = omega (arith, inside (goal.at.bounds-w-k c).After-shared_slice_known-1)

pub loop-k-preserved : goal.loop-k-preserved
loop-k-preserved c = turn_next _ _ _ _ _ _ _ _ c.loop-k.invariant (omega arith) refl

pub returns : goal.returns
returns c = turn_last _ _ _ _ _ _ _ c.loop-k.invariant c.loop-k-test.false
