use native.Mathlib.Omega.{arith}
use Prim.Native.Nat.{◌+◌}
use Rattle.grid.proofs.Products.{fits_small}
use Rattle.grid.proofs.Strides.{stride_first, stride_more, stride_fits}
use Rattle.grid.proofs.stride.Goals as goal

pub loop-j-init : goal.loop-j-init
loop-j-init c = stride_first _ _

pub overflow_mul-step : goal.overflow_mul-step
overflow_mul-step c =
    fits_small
    (rw (stride_more _ _ _ c.loop-j.j c.loop-j.invariant (omega arith))
    (stride_fits _ _ _ (c.loop-j.j + 1) c.requires.0 (omega arith)))

pub loop-j-preserved : goal.loop-j-preserved
loop-j-preserved c = stride_more _ _ _ c.loop-j.j c.loop-j.invariant (omega arith)
