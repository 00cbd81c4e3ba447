-- What is given where a query is answered: points and modes as plain numbers, of which any axes may be that have them, and slices of their
-- lengths.
use Rattle.std.specs.Prelude.{◌≡◌, List, ℕ, ◌*◌, ◌^◌, ◌<◌, ◌≤◌, length, get_or, Float}
use Rattle.rules.specs.Sizes.{most_axes, most_in_a_tensor, unused_axis, sum_below, product_below, place_of, Grid}
use Rattle.rules.specs.declared.Axis.{Axis}
use Rattle.rules.specs.declared.Mode.{Mode}
use Rattle.grid_codes.specs.Modes.{mode_of_number}
use Rattle.grid.specs.GridOfCall.{grid, points_of, InRange}

-- the mode of axis i of the four
abbrev pub modes_of : List Axis → ℕ → Mode
modes_of entries i = (get_or entries i unused_axis).mode

-- the numbers of the modes of four axes
pub record ModesOf (all : List Axis) (modes : List ℕ) : Type 0 where
  pub four : length modes ≡ most_axes
  pub number : (i : ℕ) → i < most_axes → modes_of all i ≡ mode_of_number (place_of modes i)

-- axes whose points these are, as far as they are in use
abbrev pub PointsOf : ℕ → List ℕ → List Axis → Type 0
PointsOf axes points all = (i : ℕ) → i < axes → points_of all i ≡ place_of points i

-- and whose modes' numbers are these
pub record AxesOf (axes : ℕ) (points modes : List ℕ) (all : List Axis) : Type 0 where
  pub points_are : PointsOf axes points all
  pub modes_are : (i : ℕ) → i < axes → modes_of all i ≡ mode_of_number (place_of modes i)

-- what holds of the grid of any axes that have these points and modes
abbrev pub OfAnyAxes : ℕ → List ℕ → List ℕ → List Float → (Grid → Type 0) → Type 0
OfAnyAxes axes points modes x Holds = (all : List Axis) → AxesOf axes points modes all → Holds (grid axes all x)

-- what refusals 1, 2 and 4 leave of axes and of a point: the knots may be any
pub record SearchFits (axes : ℕ) (points modes : List ℕ) (knots coordinates : List Float) : Type 0 where
  pub four_points : length points ≡ most_axes
  pub four_modes : length modes ≡ most_axes
  pub in_range : InRange axes (place_of points)
  pub knots_exact : length knots ≡ sum_below (place_of points) axes
  pub coordinates_exact : length coordinates ≡ axes

-- and what they and refusal 3 leave of a query: GridGiven before the knots were looked at, of points that are plain numbers, since a call
-- for C has no axes
pub record QueryFits (axes : ℕ) (points modes : List ℕ) (knots tensor coordinates : List Float) : Type 0 where
  pub search_fits : SearchFits axes points modes knots coordinates
  pub small : product_below (place_of points) axes * 2 ^ axes ≤ most_in_a_tensor
  pub tensor_exact : length tensor ≡ product_below (place_of points) axes * 2 ^ axes
