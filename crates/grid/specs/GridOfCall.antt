-- The chapter GridOfCall of docs/RULES.md: the grid that a call was given, and what is known of its sizes and places once the refusals have
-- looked at them.
use Rattle.std.specs.Prelude.{ℕ, ◌+◌, ◌<◌, ◌≤◌, List, [], get_or, Float}
use Rattle.rules.specs.Sizes.{
  most_axes,
  fewest_on_an_axis,
  most_on_an_axis,
  most_in_a_tensor,
  unused_axis,
  Grid,
  points,
  product_below,
  tensor_length,
  Place,
}
use Rattle.rules.specs.declared.Axis.{Axis}
use Rattle.rules.specs.declared.Condition.{Condition}

-- the grid of a call's axes, their entries and the flat knots
abbrev pub grid : ℕ → List Axis → List Float → Grid
grid axes entries flat_knots = record { axes = axes; entries = entries; flat_knots = flat_knots }

-- the same without knots: what tests on sizes and ends need
abbrev pub sizes_of : ℕ → List Axis → Grid
sizes_of axes entries = grid axes entries []

-- the points of axis i of the four
abbrev pub points_of : List Axis → ℕ → ℕ
points_of entries i = (get_or entries i unused_axis).points

-- the condition of axis i of the four
abbrev pub condition_of : List Axis → ℕ → Condition
condition_of entries i = (get_or entries i unused_axis).condition

-- what refusals 1 and 2 leave: 1 to 4 axes, with n i points on axis i
pub record InRange (axes : ℕ) (n : ℕ → ℕ) : Type 0 where
  pub some_axes : 1 ≤ axes
  pub few_axes : axes ≤ most_axes
  pub some_points : (i : ℕ) → i < axes → fewest_on_an_axis ≤ n i
  pub few_points : (i : ℕ) → i < axes → n i ≤ most_on_an_axis

-- axes whose places are no more than a tensor's numbers
pub record SizesGiven (axes : ℕ) (n : ℕ → ℕ) : Type 0 where
  pub few_axes : axes ≤ most_axes
  pub some_points : (j : ℕ) → j < axes → 0 < n j
  pub small : product_below n axes ≤ most_in_a_tensor

-- a place that lies on the grid
abbrev pub On : Grid → Place → Type 0
On g p = (j : ℕ) → j < g.axes → p j < points g j

-- a cell of the grid, by its lower indices: the upper ones are on it too
pub record CellInside (axes : ℕ) (all : List Axis) (lower : Place) : Type 0 where
  pub some_axes : 1 ≤ axes
  pub few_axes : axes ≤ most_axes
  pub small : tensor_length (sizes_of axes all) ≤ most_in_a_tensor
  pub upper : (i : ℕ) → i < axes → lower i + 1 < points_of all i
