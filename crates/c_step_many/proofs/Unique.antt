-- The exported stepped surface at many points has one answer: whatever satisfies its record, for the same inputs, is equal in its number
-- and in all that was lent.
use mathlib.Core.Path.{◌≡◌}
use mathlib.Core.List.{List}
use Prim.Native.Nat.{ℕ}
use lib.Ieee.{Float}
use Rattle.many_points.proofs.Unique.{same_answers}
use Rattle.c_step_many.specs.ManyStepExports.{SteppedManyExport}

pub stepped_many_unique :
    (axes : ℕ) (points numbers : List ℕ) (knots samples coordinates values_lent : List Float) (indices_lent refusals_lent : List ℕ)
    (r r' : ℕ) (v v' : List Float) (i i' f f' : List ℕ)
    → SteppedManyExport axes points numbers knots samples coordinates values_lent indices_lent refusals_lent r v i f
    → SteppedManyExport axes points numbers knots samples coordinates values_lent indices_lent refusals_lent r' v' i' f'
    → (r ≡ r') × (v ≡ v') × (i ≡ i') × (f ≡ f')
stepped_many_unique axes points numbers knots samples coordinates values_lent indices_lent refusals_lent =
    same_answers _ _ values_lent indices_lent refusals_lent
