use Prim.Native.Nat.{◌-◌}
use native.Mathlib.Omega.{arith}
use Rattle.tensor_verify.proofs.Indices.{turn_first, turn_next, turn_last}
use Rattle.tensor_verify.proofs.places.place_of_number.Goals as goal

pub loop-axis-init : goal.loop-axis-init
loop-axis-init c = turn_first _ _ _ c.requires.few_axes

pub offset_bounds-all-axis : goal.offset_bounds-all-axis
offset_bounds-all-axis c = omega (arith, c.loop-axis.invariant.few)

pub bounds-all-axis : goal.bounds-all-axis
bounds-all-axis c = omega (arith, c.loop-axis.invariant.few)

pub nonzero_rem-place : goal.nonzero_rem-place
nonzero_rem-place c = omega (arith, c.requires.some_points (c.loop-axis.axis - 1) (omega (arith, c.loop-axis.invariant.within)))

pub offset_bounds-place-axis : goal.offset_bounds-place-axis
offset_bounds-place-axis c = omega (arith, c.loop-axis.invariant.few)

pub bounds-place-axis : goal.bounds-place-axis
bounds-place-axis c = omega (arith, c.loop-axis.invariant.few)

pub offset_bounds-all-axis-in-loop-axis : goal.offset_bounds-all-axis-in-loop-axis
offset_bounds-all-axis-in-loop-axis c = omega (arith, c.loop-axis.invariant.few)

pub bounds-all-axis-in-loop-axis : goal.bounds-all-axis-in-loop-axis
bounds-all-axis-in-loop-axis c = omega (arith, c.loop-axis.invariant.few)

pub nonzero_div-rest : goal.nonzero_div-rest
nonzero_div-rest c = omega (arith, c.requires.some_points (c.loop-axis.axis - 1) (omega (arith, c.loop-axis.invariant.within)))

pub loop-axis-preserved : goal.loop-axis-preserved
loop-axis-preserved c = turn_next _ _ _ _ _ _ _ (omega arith) c.loop-axis.invariant

pub returns : goal.returns
returns c = turn_last _ _ _ _ _ _ c.loop-axis.invariant (omega arith)
