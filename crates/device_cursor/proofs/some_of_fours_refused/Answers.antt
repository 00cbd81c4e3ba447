use native.Mathlib.Omega.{arith}
use Rattle.device_cursor.proofs.Columns.{kept_first, kept_next, kept_last}
use Rattle.device_cursor.proofs.some_of_fours_refused.Goals as goal

pub loop-i-init : goal.loop-i-init
loop-i-init c = kept_first _

pub loop-i-preserved : goal.loop-i-preserved
loop-i-preserved c =
    kept_next _ c.loop-i.i _ _ _ _ c.loop-i.invariant _ _ _ _ c.one_of_four_refused-p0.ensures
    c.one_of_four_refused-p1.ensures c.one_of_four_refused-d0.ensures c.one_of_four_refused-d1.ensures

pub returns : goal.returns
returns c =
    let a = c.args.curve.now in
    kept_last a c.loop-i.i _ _ _ _ c.loop-i.invariant _ (omega arith)
