-- Each export of the curve has one answer: whatever satisfies its record, for the same inputs, is equal in its number and in all that was
-- lent.
use mathlib.Core.Path.{◌≡◌}
use mathlib.Core.List.{List}
use Prim.Native.Nat.{ℕ}
use lib.Ieee.{Float}
use Rattle.rules.proofs.Unique.{same}
use Rattle.c_curve.specs.CurveExports.{MomentsExport, CurveExport}

pub moments_unique :
    (n : ℕ) (knots samples : List Float) (kinds : List ℕ) (values moments_lent scratch_lent : List Float)
    (r r' : ℕ) (m m' s s' : List Float)
    → MomentsExport n knots samples kinds values moments_lent scratch_lent r m s
    → MomentsExport n knots samples kinds values moments_lent scratch_lent r' m' s'
    → (r ≡ r') × (m ≡ m') × (s ≡ s')
moments_unique n knots samples kinds values moments_lent scratch_lent r r' m m' s s' p q =
    (same p.answer q.answer, same p.output q.output, same p.scratch q.scratch)

pub curve_unique :
    (n : ℕ) (knots samples moments_in : List Float) (point : Float) (value_lent : List Float) (r r' : ℕ) (v v' : List Float)
    → CurveExport n knots samples moments_in point value_lent r v
    → CurveExport n knots samples moments_in point value_lent r' v'
    → (r ≡ r') × (v ≡ v')
curve_unique n knots samples moments_in point value_lent r r' v v' p q =
    (same p.answer q.answer, same p.slot q.slot)
