-- The chapter SteppedMeaning of docs/RULES.md: what the answer of an accepted stepped surface says of its coordinates.
use Rattle.std.specs.Prelude.{◌≡◌, List, ℕ, ◌<◌, ◌≤◌, Float}
use Rattle.rules.specs.Numbers.{at}
use Rattle.rules.specs.Sizes.{Grid, points, knots, place_of, flat}
use Rattle.rules.specs.StepCalls.{direction}
use Rattle.rules.specs.declared.StepDirection.{StepDirection}
use Rattle.rules.specs.declared.StepDirection.TheVariants.{Lower, Upper}
use Rattle.grid.specs.GridOfCall.{On}
use Rattle.step_axis.specs.Meaning.{Downward, Upward}

-- what an index says of n knots and a point in a direction
abbrev pub InDirection : StepDirection → List Float → ℕ → Float → ℕ → Type 0
InDirection Lower x n point index = Downward x n point index
InDirection Upper x n point index = Upward x n point index

-- the indices and the value of a stepped surface: on each axis in use a knot that the coordinate steps to in the axis's own direction,
-- past them 0, and the sample at these indices
pub record SteppedMeaning
    (g : Grid) (directions : List StepDirection) (samples coordinates : List Float) (indices : List ℕ) (value : Float)
    : Type 0 where
  pub steps : (i : ℕ) → i < g.axes → InDirection (direction directions i) (knots g i) (points g i) (at coordinates i) (place_of indices i)
  pub on_grid : On g (place_of indices)
  pub unused : (i : ℕ) → g.axes ≤ i → place_of indices i ≡ 0
  pub sample : value ≡ at samples (flat (points g) g.axes (place_of indices))
