-- What is given where a surface is stepped on: points as plain numbers, of which any axes may be that have them, and slices of their
-- lengths.
use Rattle.std.specs.Prelude.{◌≡◌, List, ℕ, length, Float}
use Rattle.rules.specs.Numbers.{plus_zero, table}
use Rattle.rules.specs.Sizes.{most_axes, place_of, Grid}
use Rattle.rules.specs.declared.Axis.{Axis}
use Rattle.rules.specs.Answers.{SteppedAnswer}
use Rattle.rules.proofs.Places.{One}
use Rattle.grid.specs.GridOfCall.{grid, points_of}
use Rattle.step_checks.specs.StepChecks.{stepped_sizes_check}

-- what refusals 1 to 4 leave of a surface and of coordinates
pub record SurfaceFits (axes : ℕ) (points : List ℕ) (knots samples coordinates : List Float) : Type 0 where
  pub four_points : length points ≡ most_axes
  pub none_refused : stepped_sizes_check axes (place_of points) (length knots) (length samples) (length coordinates) ≡ 0

-- what holds of the grid of any axes that have these points: a step reads nothing else of them
abbrev pub OfAnyPoints : ℕ → List ℕ → List Float → (Grid → Type 0) → Type 0
OfAnyPoints axes points x Holds = (all : List Axis) → One axes (points_of all) (place_of points) → Holds (grid axes all x)

-- the answer of a refusal: its number, and nothing but zeros beside it
abbrev pub refused_with : ℕ → SteppedAnswer
refused_with refusal = record { refusal = refusal; value = plus_zero; indices = table most_axes (λ i. 0) }
