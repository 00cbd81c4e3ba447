-- The stepped surface at many points has one answer: whatever satisfies its promise, for the same inputs, is equal in its number and in all
-- that was lent.
use mathlib.Core.Path.{◌≡◌}
use mathlib.Core.List.{List}
use Prim.Native.Nat.{ℕ}
use lib.Ieee.{Float}
use Rattle.rules.specs.Sizes.{Grid}
use Rattle.rules.specs.declared.StepDirection.{StepDirection}
use Rattle.many_points.proofs.Unique.{same_answers}
use Rattle.step_many.specs.ManySteps.{SteppedManyPromise}

pub stepped_many_unique :
    (g : Grid) (directions : List StepDirection) (samples coordinates values_lent : List Float) (indices_lent refusals_lent : List ℕ)
    (r r' : ℕ) (v v' : List Float) (i i' f f' : List ℕ)
    → SteppedManyPromise g directions samples coordinates values_lent indices_lent refusals_lent r v i f
    → SteppedManyPromise g directions samples coordinates values_lent indices_lent refusals_lent r' v' i' f'
    → (r ≡ r') × (v ≡ v') × (i ≡ i') × (f ≡ f')
stepped_many_unique g directions samples coordinates values_lent indices_lent refusals_lent =
    same_answers _ _ values_lent indices_lent refusals_lent
