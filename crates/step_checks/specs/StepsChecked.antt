-- What is known of all that a call of steps was given once its check has found nothing to refuse.
use Rattle.std.specs.Prelude.{◌≡◌, true, List, ℕ, ◌+◌, ◌*◌, ◌^◌, ◌≤◌, ◌<◌, length, take, drop, Float}
use Rattle.std.specs.Float.Ieee.Scale.{finite}
use Rattle.rules.specs.Numbers.{at}
use Rattle.rules.specs.Sizes.{
  fewest_on_an_axis,
  most_on_an_axis,
  most_in_a_tensor,
  Grid,
  points,
  sum_below,
  product_below,
  samples_length,
}
use Rattle.grid.specs.GridOfCall.{InRange}
use Rattle.axis_locate.specs.CellFound.{Rising}

-- of n knots and a point
pub record PointGiven (n : ℕ) (x : List Float) (point : Float) : Type 0 where
  pub some_points : fewest_on_an_axis ≤ n
  pub few_points : n ≤ most_on_an_axis
  pub rising : Rising x n
  pub point_finite : finite point ≡ true

-- of these and a lower index
pub record ExactGiven (n : ℕ) (x : List Float) (lower : ℕ) (point : Float) : Type 0 where
  pub point_given : PointGiven n x point
  pub next_knot : lower + 1 < n

-- of axes with n i points on axis i, knots and coordinates: GridGiven without a tensor, and with knots that are Rising on each axis, as a
-- step wants them
pub record AxesGiven (axes : ℕ) (n : ℕ → ℕ) (x coordinates : List Float) : Type 0 where
  pub in_range : InRange axes n
  pub small : product_below n axes * 2 ^ axes ≤ most_in_a_tensor
  pub knots_exact : length x ≡ sum_below n axes
  pub coordinates_exact : length coordinates ≡ axes
  pub on_axis : (i : ℕ) → i < axes → PointGiven (n i) (take (n i) (drop (sum_below n i) x)) (at coordinates i)

-- of these, as a grid, and samples
pub record SteppedGiven (g : Grid) (samples coordinates : List Float) : Type 0 where
  pub axes_given : AxesGiven g.axes (points g) g.flat_knots coordinates
  pub samples_exact : length samples ≡ samples_length g
