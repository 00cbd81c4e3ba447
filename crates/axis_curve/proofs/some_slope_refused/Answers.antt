use native.Mathlib.Omega.{arith}
use Prim.Native.Nat.{◌-◌}
use mathlib.Core.Path.{refl}
use lib.ListN.{length}
use Rattle.axis_curve.proofs.SlopeTurns.{turn_first, turn_next, turn_last}
use Rattle.axis_curve.proofs.some_slope_refused.Goals as goal

pub loop-i-init : goal.loop-i-init
loop-i-init c = turn_first _ _ _ _ c.requires.0 c.requires.1

pub loop-i-preserved : goal.loop-i-preserved
loop-i-preserved c = turn_next _ _ _ _ _ _ _ c.loop-i.invariant _ c.knot_slope-slope.ensures _ c.is_finite.ensures (omega arith)

pub returns : goal.returns
returns c =
    turn_last _ _ _ _ _ _ _ (length c.args.x.now - 1) c.loop-i.invariant refl (omega arith) _
    c.knot_slope-slope-2.ensures _ c.is_finite-2.ensures
