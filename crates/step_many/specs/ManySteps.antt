-- The chapter ManySteps of docs/RULES.md: the stepped surface at many points by one call. The four indices of a point stand where a query
-- has its labels.
use Rattle.std.specs.Prelude.{cond, ◌||◌, List, ℕ, length, Float}
use Rattle.rules.specs.Sizes.{Grid, knots_length, samples_length}
use Rattle.rules.specs.Refusals.{axes_refused, some_points_refused, tensor_refused, length_refused}
use Rattle.rules.specs.StepCalls.{stepped_answer}
use Rattle.rules.specs.Answers.{QueryAnswer, SteppedAnswer}
use Rattle.rules.specs.declared.StepDirection.{StepDirection}
use Rattle.many_points.specs.ManyPoints.{point_of, points_lengths_refused, EachAnswered}

-- an answer of the stepped surface with its indices as labels
abbrev pub indices_as_labels : SteppedAnswer → QueryAnswer
indices_as_labels given = record { refusal = given.refusal; value = given.value; labels = given.indices }

module _ (g : Grid) (directions : List StepDirection) (samples coordinates values_lent : List Float) (indices_lent refusals_lent : List ℕ)
  where
    -- its refusal, the first of 1 2 3 4 that applies: from 7 on each point has its own
    unfoldable pub stepped_many_refusal : ℕ
    stepped_many_refusal =
        cond (axes_refused g) 1
        (cond (some_points_refused g) 2
        (cond (tensor_refused g) 3
        (cond
        (length_refused (length g.flat_knots) (knots_length g) || length_refused (length samples) (samples_length g)
        || points_lengths_refused g.axes (length coordinates) (length values_lent) (length indices_lent) (length refusals_lent))
        4 0)))

    -- what is promised: at each point the answer of the stepped surface for that one
    abbrev pub SteppedManyPromise : ℕ → List Float → List ℕ → List ℕ → Type 0
    SteppedManyPromise =
        EachAnswered stepped_many_refusal
        (λ j. indices_as_labels (stepped_answer g directions samples (point_of g.axes coordinates j)))
        values_lent indices_lent refusals_lent
