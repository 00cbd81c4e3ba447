-- The chapter ManyStepExports of docs/RULES.md: the exported stepped surface at many points. All that it refuses as a whole is the host's
-- own: from 7 on each point has its own refusal.
use Rattle.std.specs.Prelude.{◌||◌, List, [], ◌∷◌, ◌++◌, ℕ, length, Float}
use Rattle.rules.specs.Sizes.{most_axes, knots_length, samples_length}
use Rattle.rules.specs.Refusals.{length_refused}
use Rattle.rules.specs.StepCalls.{stepped_answer}
use Rattle.grid_checks.specs.Tables.{Refusal, row, lowest}
use Rattle.many_points.specs.ManyPoints.{point_of, points_lengths_refused, EachAnswered}
use Rattle.step_many.specs.ManySteps.{indices_as_labels}
use Rattle.c_axes.specs.Axes.{grid_without_ends}
use Rattle.c_refusals.specs.OwnRefusals.{sizes_given, axes_rows}
use Rattle.c_step.specs.Directions.{some_direction_refused, directions_given}

module _ (axes : ℕ) (points numbers : List ℕ) (knots samples coordinates values_lent : List Float) (indices_lent refusals_lent : List ℕ)
  where
    -- 4 for the directions, for knots and samples and for what is lent of the points, and 22
    abbrev pub many_own_rows : List Refusal
    many_own_rows =
        axes_rows axes points ++ (
        row 4 (length_refused (length numbers) most_axes)
        ∷ row 4 (
        length_refused (length knots) (knots_length (sizes_given axes points))
        || length_refused (length samples) (samples_length (sizes_given axes points))
        )
        ∷ row 4 (points_lengths_refused axes (length coordinates) (length values_lent) (length indices_lent) (length refusals_lent))
        ∷ row 22 (some_direction_refused axes numbers)
        ∷ []
        )

    unfoldable pub many_own_refusal : ℕ
    many_own_refusal = lowest many_own_rows 0

    -- what is promised: at each point the answer of the stepped surface for that one
    abbrev pub SteppedManyExport : ℕ → List Float → List ℕ → List ℕ → Type 0
    SteppedManyExport =
        EachAnswered many_own_refusal
        (λ j.
        indices_as_labels
        (stepped_answer (grid_without_ends axes points knots) (directions_given axes numbers) samples (point_of axes coordinates j)))
        values_lent indices_lent refusals_lent
