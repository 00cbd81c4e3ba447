-- Where the host refuses nothing of many points to step at, the surface can be stepped on, and each point has its places; and what stands
-- there is the answer in the directions given.
use mathlib.Core.Path.{◌≡◌, refl, ap, ◌∙◌}
use mathlib.Core.Bool.{Bool, true, false, cond, ◌||◌}
use mathlib.Core.List.{List}
use Prim.Native.Nat.{ℕ, ◌≤◌, ◌<◌}
use lib.ListN.{length}
use lib.Ieee.{Float}
use Rattle.rules.specs.Sizes.{most_axes, knots_length, samples_length, place_of}
use Rattle.rules.specs.Refusals.{length_refused}
use Rattle.rules.specs.StepCalls.{stepped_answer}
use Rattle.rules.specs.Answers.{QueryAnswer}
use Rattle.rules.specs.declared.StepDirection.{StepDirection}
use Rattle.grid_checks.proofs.Rows.{NoneApplies, none_applies, axes_few, length_fits, exact}
use Rattle.many_points.specs.ManyPoints.{point_of}
use Rattle.many_points.specs.PointByPoint.{PointsFit}
use Rattle.step_checks.specs.StepChecks.{stepped_sizes_check}
use Rattle.step_many.specs.ManySteps.{indices_as_labels}
use Rattle.step_many.specs.StepByStep.{SteppedAmong}
use Rattle.step_many.proofs.Refusing.{points_fit}
use Rattle.c_axes.specs.Axes.{axes_without_ends, grid_without_ends}
use Rattle.c_refusals.specs.OwnRefusals.{sizes_given}
use Rattle.c_refusals.proofs.Rows.{given_below}
use Rattle.c_step.specs.Directions.{directions_given}
use Rattle.c_step.proofs.Lengths.{sizes_none}
use Rattle.c_step_many.specs.ManyStepExports.{many_own_rows, many_own_refusal}

-- a third test that does not hold
pub two_of_three : (a b c : Bool) → c ≡ false → (a || b || c) ≡ (a || b)
two_of_three true b c e = refl
two_of_three false true c e = refl
two_of_three false false c e = e

module _ (axes : ℕ) (points numbers : List ℕ) (knots samples coordinates values : List Float) (indices refusals : List ℕ)
    (none : many_own_refusal axes points numbers knots samples coordinates values indices refusals ≡ 0) where
  rows : NoneApplies (many_own_rows axes points numbers knots samples coordinates values indices refusals)
  unfolding many_own_refusal
  rows = none_applies (many_own_rows axes points numbers knots samples coordinates values indices refusals) tt none

  few : axes ≤ most_axes
  few = (axes_few {axes = axes} rows.0).1

  pub four_directions : length numbers ≡ 4
  four_directions = exact (length numbers) 4 rows.1.1.1.1.0

  abbrev g_knots : Bool
  g_knots = length_refused (length knots) (knots_length (sizes_given axes points))

  abbrev g_samples : Bool
  g_samples = length_refused (length samples) (samples_length (sizes_given axes points))

  pub all_fit : (length points ≡ 4) × (stepped_sizes_check axes (place_of points) (length knots) (length samples) axes ≡ 0)
      × PointsFit (λ (p : List Float). length p ≡ axes) axes coordinates values indices (length refusals)
  all_fit = (
    exact (length points) 4 rows.1.0,
    sizes_none axes points (length knots) (length samples) axes (rows.0, (rows.1.0, (rows.1.1.0, (rows.1.1.1.0, tt))))
        (two_of_three g_knots g_samples (length_refused axes axes) (length_fits axes axes refl) ∙ rows.1.1.1.1.1.0),
    points_fit axes coordinates values indices refusals (ap (λ (b : Bool). cond {A = ℕ} b 4 0) rows.1.1.1.1.1.1.0),
  )

  pub each_stepped :
      (d : List StepDirection) → d ≡ directions_given axes numbers → (count j : ℕ) → j < count → (r : QueryAnswer)
      → SteppedAmong axes points d knots samples (point_of axes coordinates j) r
      → r
      ≡ indices_as_labels
      (stepped_answer (grid_without_ends axes points knots) (directions_given axes numbers) samples (point_of axes coordinates j))
  each_stepped d e count j l r among =
      among (axes_without_ends axes points) (given_below axes points few)
      ∙ ap
      (λ (k : List StepDirection).
      indices_as_labels (stepped_answer (grid_without_ends axes points knots) k samples (point_of axes coordinates j)))
      e
