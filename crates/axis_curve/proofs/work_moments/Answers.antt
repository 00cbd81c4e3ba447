-- The moments of the rules stand in their row of the scratch and are copied out unless one is not finite, which is 10;
-- either way all of the scratch is +0.0 afterwards.
use native.Mathlib.Omega.{arith}
use Prim.Native.Nat.{◌+◌, ◌-◌}
use native.Mathlib.Nat.{sub-zero}
use lib.ListN.{length}
use Rattle.axis_curve.proofs.PublicCalls.{moments_bad, moments_good}
use Rattle.axis_curve.proofs.work_moments.Goals as goal

pub returns-then-any_not_finite : goal.returns-then-any_not_finite
returns-then-any_not_finite c =
    let a = c.args in
    let n = 1792 + length a.knots.now - 1792 in
    moments_bad a.knots.now a.samples.now a.condition a.moments.now a.scratch.now _ _ c.requires.rows_fit.0
    c.requires.samples_len.0 (rw (c.copy.ensures, sub-zero)) c.compute_m.ensures
    n (omega arith) _ c.any_not_finite.ensures c.if-any_not_finite.true _ c.clear.ensures

pub returns : goal.returns
returns c =
    let a = c.args in
    let n = 1792 + length a.knots.now - 1792 in
    moments_good a.knots.now a.samples.now a.condition a.moments.now a.scratch.now _ _ c.requires.rows_fit.0
    c.requires.samples_len.0 (rw (c.copy.ensures, sub-zero)) c.compute_m.ensures
    n (omega arith) _ c.any_not_finite.ensures c.if-any_not_finite.false n (omega arith) _ _
    c.copy-2.ensures
    c.clear-2.ensures
