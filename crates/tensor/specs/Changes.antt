-- Lists of changes: what was asked and answered at each, and the tensor and the samples that they leave.
use Rattle.std.specs.Prelude.{List, [], ◌∷◌, ℕ, zero, suc, set, Float}
use Rattle.rules.specs.Sizes.{Grid, points, Place, flat}
use Rattle.rules.specs.Calls.{ChangePromise}
use Rattle.rules.specs.Answers.{ChangeAnswer}

-- one change of a list: what was asked, the scratch that was lent, the answer, and what stood afterwards in the tensor and the scratch
pub record OneChange : Type 0 where
  pub place : Place
  pub sample : Float
  pub scratch : List Float
  pub answer : ChangeAnswer
  pub tensor_later : List Float
  pub scratch_later : List Float

-- each change kept its promise, on the tensor that the one before it left
abbrev pub Kept : Grid → List Float → List OneChange → Type 0
Kept g t [] = Unit {0}
Kept g t (change ∷ changes) =
    ChangePromise g t change.scratch change.place change.sample change.answer change.tensor_later change.scratch_later
    × Kept g change.tensor_later changes

-- the tensor after them
abbrev pub tensor_after : List Float → List OneChange → List Float
tensor_after t [] = t
tensor_after t (change ∷ changes) = tensor_after change.tensor_later changes

-- the samples now standing: a change that was not refused put its own in place
abbrev pub standing : Grid → ℕ → List Float → Place → Float → List Float
standing g zero samples place v = set samples (flat (points g) g.axes place) v
standing g (suc refusal) samples place v = samples

abbrev pub samples_after : Grid → List Float → List OneChange → List Float
samples_after g samples [] = samples
samples_after g samples (change ∷ changes) =
    samples_after g (standing g change.answer.refusal samples change.place change.sample) changes
