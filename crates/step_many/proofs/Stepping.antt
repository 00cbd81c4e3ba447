-- What the look at knots and samples, and each step, require where sizes and lengths are not refused, and what each step gives.
use mathlib.Core.Path.{◌≡◌, ap}
use mathlib.Core.List.{List}
use Prim.Native.Nat.{ℕ}
use lib.ListN.{length}
use lib.Ieee.{Float}
use Rattle.rules.specs.Sizes.{place_of, sum_below}
use Rattle.rules.specs.StepCalls.{SteppedPromise}
use Rattle.rules.specs.declared.StepDirection.{StepDirection}
use Rattle.rules.specs.Answers.{SteppedAnswer}
use Rattle.grid.specs.GridOfCall.{InRange}
use Rattle.step_checks.specs.StepChecks.{stepped_sizes_check}
use Rattle.step_checks.proofs.Accepted.{sizes_accepted}
use Rattle.step_surface.specs.OnPoints.{SurfaceFits, OfAnyPoints}
use Rattle.step_many.specs.ManySteps.{indices_as_labels}
use Rattle.step_many.specs.StepByStep.{SteppedAmong}

module _ (axes : ℕ) (points : List ℕ) (x samples : List Float) (four : length points ≡ 4)
    (none : stepped_sizes_check axes (place_of points) (length x) (length samples) axes ≡ 0) where
  -- what the look at knots and samples requires
  pub knots_fit : InRange axes (place_of points) × (length points ≡ 4) × (length x ≡ sum_below (place_of points) axes)
  knots_fit =
      let sizes = sizes_accepted axes (place_of points) (length x) (length samples) axes none in
      (sizes.0, four, sizes.2)

  -- and a step
  pub point_fits : (coordinates : List Float) → length coordinates ≡ axes → SurfaceFits axes points x samples coordinates
  point_fits coordinates e = record { four_points = four; none_refused = rw e none }

-- the answer with its indices as labels
pub among :
    (axes : ℕ) (points : List ℕ) (directions : List StepDirection) (x samples coordinates : List Float) (given : SteppedAnswer)
    → OfAnyPoints axes points x (λ g. SteppedPromise g directions samples coordinates given)
    → SteppedAmong axes points directions x samples coordinates (indices_as_labels given)
among axes points directions x samples coordinates given promised all are = ap indices_as_labels (promised all are).answer
