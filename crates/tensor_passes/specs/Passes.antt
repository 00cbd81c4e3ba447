-- A pass solves the lanes along axis i of the numbers at one mask, and stores their slopes at the target, that mask with axis i put in. A
-- build solves each lane; a change those that agree with its place on every axis outside the target.
use Rattle.std.specs.Prelude.{◌≡◌, Bool, true, false, List, ℕ, zero, suc, ◌+◌, ◌-◌, ◌^◌, ◌<◌, ◌≤◌, ltb, length, Float}
use Rattle.rules.specs.Numbers.{at}
use Rattle.rules.specs.Sizes.{
  most_in_a_tensor,
  Grid,
  points,
  condition,
  knots_length,
  sum_below,
  product_below,
  masks,
  tensor_length,
  scratch_length,
  Place,
  spot,
}
use Rattle.rules.specs.Refusals.{fewness_refused}
use Rattle.rules.specs.Tensor.{slope_along}
use Rattle.rules.specs.Change.{agree}
use Rattle.grid.specs.GridOfCall.{InRange, On}
use Rattle.grid_scratch.specs.Layout.{tensor_begin, row}
use Rattle.tensor_starts.specs.Starts.{free, varies, lane_points}

-- ---- the lanes of a pass

-- whether the lane that p lies on is solved
unfoldable pub solves : Grid → Bool → Place → ℕ → Place → Bool
unfolding agree free
solves g whole place target p = agree (free whole target) g.axes p place

-- how many lanes a pass solves
unfoldable pub lanes_solved : (ℕ → ℕ) → ℕ → Bool → ℕ → ℕ → ℕ
unfolding product_below lane_points varies
lanes_solved n axes whole i mask = product_below (lane_points n (varies whole (mask + 2 ^ i) i)) axes

-- ---- the working tensor

-- the number of a place and a mask
abbrev pub working : Grid → List Float → Place → ℕ → Float
working g w p mask = row w tensor_begin (spot g p mask)

-- a grid that was not refused, and a scratch with room for its tensor: GridGiven without finite and rising knots, which no pass asks for,
-- and with a scratch for a tensor
pub record WorkGiven (g : Grid) (w : List Float) : Type 0 where
  pub in_range : InRange g.axes (points g)
  pub small : tensor_length g ≤ most_in_a_tensor
  pub knots_exact : length g.flat_knots ≡ knots_length g
  pub enough_points : (i : ℕ) → i < g.axes → fewness_refused (condition g i) (points g i) ≡ false
  pub room : scratch_length g ≤ length w

-- what a pass along axis i of the numbers at a mask is given
pub record PassGiven (g : Grid) (w : List Float) (place : Place) (i mask : ℕ) : Type 0 where
  pub given : WorkGiven g w
  pub on_the_grid : On g place
  pub in_use : i < g.axes
  pub low : mask < 2 ^ i

-- after a pass: the slopes of the lanes solved stand at the target, and every other number is kept
pub record Passed (g : Grid) (w w' : List Float) (whole : Bool) (place : Place) (i mask : ℕ) : Type 0 where
  pub same_length : length w' ≡ length w
  pub slopes : (p : Place) → On g p → solves g whole place (mask + 2 ^ i) p ≡ true
      → working g w' p (mask + 2 ^ i) ≡ slope_along g i mask (λ q. working g w q mask) p
  pub kept : (p : Place) (m : ℕ) → On g p → m < masks g → (m ≡ mask + 2 ^ i → solves g whole place (mask + 2 ^ i) p ≡ false)
      → working g w' p m ≡ working g w p m

-- after the passes along axis i of the masks below a limit
pub record AxisPassed (g : Grid) (w w' : List Float) (whole : Bool) (place : Place) (i limit : ℕ) : Type 0 where
  pub same_length : length w' ≡ length w
  pub slopes : (p : Place) (mask : ℕ) → On g p → mask < limit → solves g whole place (mask + 2 ^ i) p ≡ true
      → working g w' p (mask + 2 ^ i) ≡ slope_along g i mask (λ q. working g w q mask) p
  pub kept : (p : Place) (m : ℕ) → On g p → m < masks g
      → ((mask : ℕ) → mask < limit → m ≡ mask + 2 ^ i → solves g whole place (mask + 2 ^ i) p ≡ false)
      → working g w' p m ≡ working g w p m

-- ---- all axes

-- the number at a place and a mask once the axes below i are done, from those that stood in the working tensor
unfoldable pub refreshed : Grid → Bool → Place → (Place → ℕ → Float) → ℕ → ℕ → Place → Float
unfolding solves slope_along
refreshed g whole place old zero mask p = old p 0
refreshed g whole place old (suc i) mask p =
    elim (ltb mask (2 ^ i)) [
      | true ↦ refreshed g whole place old i mask p
      | false ↦ elim (solves g whole place (mask - 2 ^ i + 2 ^ i) p) [
        | true ↦ slope_along g i (mask - 2 ^ i) (refreshed g whole place old i (mask - 2 ^ i)) p
        | false ↦ old p mask
      ]
    ]

-- after the axes below i
pub record Refreshed (g : Grid) (w w' : List Float) (whole : Bool) (place : Place) (i : ℕ) : Type 0 where
  pub same_length : length w' ≡ length w
  pub done : (p : Place) (mask : ℕ) → On g p → mask < masks g → mask < 2 ^ i
      → working g w' p mask ≡ refreshed g whole place (working g w) i mask p
  pub rest : (p : Place) (mask : ℕ) → On g p → mask < masks g → 2 ^ i ≤ mask → working g w' p mask ≡ working g w p mask

-- how many lanes are solved along axis i, and along the axes below i
unfoldable pub lanes_on_axis : (ℕ → ℕ) → ℕ → Bool → ℕ → ℕ
unfolding sum_below lanes_solved
lanes_on_axis n axes whole i = sum_below (lanes_solved n axes whole i) (2 ^ i)

unfoldable pub lanes_solved_below : (ℕ → ℕ) → ℕ → Bool → ℕ → ℕ
unfolding sum_below lanes_on_axis
lanes_solved_below n axes whole i = sum_below (lanes_on_axis n axes whole) i
