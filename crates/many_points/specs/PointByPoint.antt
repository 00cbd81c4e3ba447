-- What is required where points are answered one after the other, and what stands in their slices so far.
use Rattle.std.specs.Prelude.{◌≡◌, List, ℕ, ◌+◌, ◌*◌, ◌<◌, length, set, Float}
use Rattle.rules.specs.Numbers.{at}
use Rattle.rules.specs.Sizes.{most_axes, place_of}
use Rattle.rules.specs.Answers.{QueryAnswer}
use Rattle.many_points.specs.ManyPoints.{point_of}

-- what refusals 1 to 4 leave of so many points: each fits, so it can be answered, and each has its places
pub record PointsFit (Fits : List Float → Type 0) (axes : ℕ) (coordinates values : List Float) (labels : List ℕ) (count : ℕ) : Type
    0 where
  pub fits : (j : ℕ) → j < count → Fits (point_of axes coordinates j)
  pub coordinates_exact : length coordinates ≡ axes * count
  pub values_exact : length values ≡ count
  pub labels_exact : length labels ≡ most_axes * count

-- four labels at a place of a list
abbrev pub with_labels : List ℕ → ℕ → List ℕ → List ℕ
with_labels labels place found =
    set (set (set (set labels place (place_of found 0)) (place + 1) (place_of found 1)) (place + 2) (place_of found 2)) (place + 3)
    (place_of found 3)

-- the answer of point j in its places, and those of the others as they were
pub record AnswerPut (values : List Float) (labels refusals : List ℕ) (j : ℕ) (given : QueryAnswer) (values_later : List Float)
    (labels_later refusals_later : List ℕ) : Type 0 where
  pub value : values_later ≡ set values j given.value
  pub its_labels : labels_later ≡ with_labels labels (most_axes * j) given.labels
  pub refusal : refusals_later ≡ set refusals j given.refusal

-- by what an answer at a point is
module _ (Is : List Float → QueryAnswer → Type 0) (axes : ℕ) (coordinates : List Float) where
  -- the answer at point j stands in its places
  pub record StandsAt (values : List Float) (labels refusals : List ℕ) (j : ℕ) : Type 0 where
    pub given : QueryAnswer
    pub is : Is (point_of axes coordinates j) given
    pub value : at values j ≡ given.value
    pub its_labels : (i : ℕ) → i < most_axes → place_of labels (most_axes * j + i) ≡ place_of given.labels i
    pub refusal : place_of refusals j ≡ given.refusal

  -- so for the first `done` of so many points
  pub record FirstStand (count done : ℕ) (values : List Float) (labels refusals : List ℕ) : Type 0 where
    pub values_count : length values ≡ count
    pub labels_count : length labels ≡ most_axes * count
    pub refusals_count : length refusals ≡ count
    pub each : (j : ℕ) → j < done → StandsAt values labels refusals j
