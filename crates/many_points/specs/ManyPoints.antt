-- The chapter ManyPoints of docs/RULES.md: many points by one call, whose coordinates stand one point after the other. The points are as
-- many as the refusals lent.
use Rattle.std.specs.Prelude.{◌≡◌, Bool, ◌||◌, List, ℕ, ◌*◌, ◌/◌, ◌%◌, length, take, drop, Float}
use Rattle.rules.specs.Numbers.{table}
use Rattle.rules.specs.Sizes.{most_axes, place_of}
use Rattle.rules.specs.Refusals.{length_refused}
use Rattle.rules.specs.Calls.{stored}
use Rattle.rules.specs.Answers.{QueryAnswer}

-- the coordinates of point j, which begin after those of the points before it
abbrev pub point_of : ℕ → List Float → ℕ → List Float
point_of axes coordinates j = take axes (drop (axes * j) coordinates)

-- 4 for what is lent of so many points: a coordinate on each axis, one value, four labels
abbrev pub points_lengths_refused : ℕ → ℕ → ℕ → ℕ → ℕ → Bool
points_lengths_refused axes coordinates values labels count =
    length_refused coordinates (axes * count) || length_refused values count || length_refused labels (most_axes * count)

-- of so many answers the values, the labels, four of each after the other, and the refusals
abbrev pub values_of : ℕ → (ℕ → QueryAnswer) → List Float
values_of count answers = table count (λ j. (answers j).value)

abbrev pub labels_among : ℕ → (ℕ → QueryAnswer) → List ℕ
labels_among count answers = table (most_axes * count) (λ e. place_of (answers (e / most_axes)).labels (e % most_axes))

abbrev pub refusals_of : ℕ → (ℕ → QueryAnswer) → List ℕ
refusals_of count answers = table count (λ j. (answers j).refusal)

-- what is promised of a call that refuses so, or else answers so at each point: its number, and the values, the labels and the refusals of
-- all points; where it refuses, nothing of them is written
pub record EachAnswered (own : ℕ) (answers : ℕ → QueryAnswer) (values_lent : List Float) (labels_lent refusals_lent : List ℕ)
    (refusal : ℕ) (values_later : List Float) (labels_later refusals_later : List ℕ) : Type 0 where
  pub answer : refusal ≡ own
  pub values : values_later ≡ stored own values_lent (values_of (length refusals_lent) answers)
  pub labels : labels_later ≡ stored own labels_lent (labels_among (length refusals_lent) answers)
  pub refusals : refusals_later ≡ stored own refusals_lent (refusals_of (length refusals_lent) answers)
