use native.Mathlib.Omega.{arith}
use Prim.Native.Nat.{◌+◌, ◌*◌, ◌<◌}
use lib.ListN.{length}
use Rattle.tensor_lane.proofs.Gathering.{turn_first, turn_next, turn_last}
use Rattle.tensor_lane.proofs.gather.Goals as goal
use Rattle.tensor_lane.proofs.gather.Goals.{In-loop-k}

-- the lane's number k lies within
inside : (c : In-loop-k)
    → c.args.from + c.loop-k.k * c.args.step < length c.args.w.now
inside c = c.loop-k.invariant.lies.within c.loop-k.k c.loop-k-test.true

pub loop-k-init : goal.loop-k-init
loop-k-init c = turn_first _ _ _ _ c.requires.0 c.requires.1

pub overflow_mul-w : goal.overflow_mul-w
overflow_mul-w c = omega (arith, inside (goal.at.overflow_mul-w c).In-loop-k)

pub overflow_add-w : goal.overflow_add-w
overflow_add-w c = omega (arith, inside (goal.at.overflow_add-w c).In-loop-k)

pub offset_bounds-w-from : goal.offset_bounds-w-from
offset_bounds-w-from c = omega (arith, inside (goal.at.offset_bounds-w-from c).In-loop-k)

pub bounds-w-from : goal.bounds-w-from
bounds-w-from c = omega (arith, inside (goal.at.bounds-w-from c).In-loop-k)

pub loop-k-preserved : goal.loop-k-preserved
loop-k-preserved c = turn_next _ _ _ _ _ _ c.loop-k.invariant c.loop-k-test.true

pub returns : goal.returns
returns c = turn_last _ _ _ _ _ _ c.loop-k.invariant c.loop-k-test.false
