use borrow.Author.Rules.{rules}
use native.Mathlib.Omega.{arith}
use mathlib.Core.Path.{◌∙◌}
use Prim.Native.Nat.{◌+◌, ◌*◌, ◌<◌}
use lib.ListN.{length}
use Rattle.tensor_lane.proofs.Storing.{turn_first, turn_next, turn_last, slope_kept}
use Rattle.tensor_lane.proofs.store_slopes.Goals as goal
use Rattle.tensor_lane.proofs.store_slopes.Goals.{After-slope}

-- slope k has a place
inside : (c : After-slope)
    → c.args.to + c.loop-k.k * c.args.step < length c.args.w.now
inside c = c.loop-k.invariant.lies.within c.loop-k.k (omega arith)

pub loop-k-init : goal.loop-k-init
loop-k-init c = let pre = c.requires in turn_first _ _ _ _ _ pre.0 pre.1

pub slope-requires : goal.slope-requires
slope-requires c = search rules

pub overflow_mul-w : goal.overflow_mul-w
overflow_mul-w c = omega (arith, inside (goal.at.overflow_mul-w c).After-slope)

pub overflow_add-w : goal.overflow_add-w
overflow_add-w c = omega (arith, inside (goal.at.overflow_add-w c).After-slope)

pub offset_bounds-w-to : goal.offset_bounds-w-to
offset_bounds-w-to c = omega (arith, inside (goal.at.offset_bounds-w-to c).After-slope)

pub bounds-w-to : goal.bounds-w-to
bounds-w-to c = omega (arith, inside (goal.at.bounds-w-to c).After-slope)

pub loop-k-preserved : goal.loop-k-preserved
loop-k-preserved c =
    let inv = c.loop-k.invariant in
    let pre = c.requires in
    turn_next _ _ _ _ _ _ _ _ inv (omega arith) (c.slope.ensures ∙ slope_kept _ _ _ _ _ _ _ _ inv.lies pre.3 inv.done)

pub returns : goal.returns
returns c = turn_last _ _ _ _ _ _ _ c.loop-k.invariant c.loop-k-test.false
