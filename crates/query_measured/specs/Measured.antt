-- What was measured is read: a surface, the coordinates of a place of its grid, and what a query then answers.
use Rattle.std.specs.Prelude.{◌≡◌, true, false, List, ℕ, ◌-◌, ◌<◌, length, get_or, Float}
use Rattle.std.specs.Float.Ieee.{eq}
use Rattle.rules.specs.Numbers.{at}
use Rattle.rules.specs.Sizes.{Grid, knots_length, knots, tensor_length, Place, spot}
use Rattle.rules.specs.Refusals.{axes_refused, some_points_refused, tensor_refused, some_number_refused, some_knots_refused}
use Rattle.rules.specs.Answers.{QueryAnswer}
use Rattle.grid.specs.GridOfCall.{On}
use Rattle.base_floats.specs.Place.{AllFit}

-- a grid of 1 to 4 axes whose sizes and lengths fit and whose knots pass 7 and 8, and a tensor of finite numbers, whatever they are; each
-- an f64, as in every slice. Said by the rules' refusals, so that it is read beside the page and not beside a check
pub record Surface (g : Grid) (tensor : List Float) : Type 0 where
  pub axes_fine : axes_refused g ≡ false
  pub points_fine : some_points_refused g ≡ false
  pub tensor_fine : tensor_refused g ≡ false
  pub knots_exact : length g.flat_knots ≡ knots_length g
  pub tensor_exact : length tensor ≡ tensor_length g
  pub knots_finite : some_number_refused g.flat_knots ≡ false
  pub knots_rise : some_knots_refused g ≡ false
  pub tensor_finite : some_number_refused tensor ≡ false
  pub knots_fit : AllFit g.flat_knots
  pub tensor_fit : AllFit tensor

-- coordinates that on each axis in use equal the knot of a place, −0.0 and +0.0 alike
pub record AtPlace (g : Grid) (place : Place) (coordinates : List Float) : Type 0 where
  pub exact : length coordinates ≡ g.axes
  pub on_grid : On g place
  pub equal : (i : ℕ) → i < g.axes → eq (at coordinates i) (at (knots g i) (place i)) ≡ true
  pub fit : AllFit coordinates

-- the answer of a query that reads a number at a place: no refusal, the number, −0.0 and +0.0 alike, and as label the cell below the knot,
-- at knot 0 the first
pub record Reads (g : Grid) (place : Place) (number : Float) (given : QueryAnswer) : Type 0 where
  pub accepted : given.refusal ≡ 0
  pub value : eq given.value number ≡ true
  pub label : (i : ℕ) → i < g.axes → get_or given.labels i 0 ≡ place i - 1

-- what a query promises of its answer, from the grid, the tensor and the coordinates
abbrev pub Promise : Type 1
Promise = Grid → List Float → List Float → QueryAnswer → Type 0

-- in whatever modes the axes are it reads the tensor's number at mask 0 of the place
abbrev pub MeasuredIsRead : Promise → Type 0
MeasuredIsRead Promised =
    (g : Grid) (tensor coordinates : List Float) (place : Place) (given : QueryAnswer) → Surface g tensor → AtPlace g place coordinates
    → Promised g tensor coordinates given → Reads g place (at tensor (spot g place 0)) given
