-- What is known of each point where points are stepped at one after the other.
use Rattle.std.specs.Prelude.{◌≡◌, List, ℕ, Float}
use Rattle.rules.specs.StepCalls.{stepped_answer}
use Rattle.rules.specs.Answers.{QueryAnswer}
use Rattle.rules.specs.declared.StepDirection.{StepDirection}
use Rattle.step_surface.specs.OnPoints.{OfAnyPoints}
use Rattle.step_many.specs.ManySteps.{indices_as_labels}

-- the answer of the stepped surface at a point, whichever axes have these points, with its indices as labels
abbrev pub SteppedAmong : ℕ → List ℕ → List StepDirection → List Float → List Float → List Float → QueryAnswer → Type 0
SteppedAmong axes points directions x samples coordinates r =
    OfAnyPoints axes points x (λ g. r ≡ indices_as_labels (stepped_answer g directions samples coordinates))
