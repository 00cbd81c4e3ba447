use native.Mathlib.Omega.{arith}
use Rattle.grid.proofs.Placing.{number_none, number_more, number_fits}
use Rattle.grid.proofs.place_number.Goals as goal

pub loop-j-init : goal.loop-j-init
loop-j-init c = number_none _ _

pub overflow_mul-number : goal.overflow_mul-number
overflow_mul-number c =
    let pre = c.requires in
    omega (arith, number_fits _ _ _ _ c.loop-j.invariant _ pre.0 pre.1 (omega arith))

pub overflow_add-number : goal.overflow_add-number
overflow_add-number c =
    let pre = c.requires in
    omega (arith, number_fits _ _ _ _ c.loop-j.invariant _ pre.0 pre.1 (omega arith))

pub loop-j-preserved : goal.loop-j-preserved
loop-j-preserved c = number_more _ _ _ _ c.loop-j.invariant
