-- The chapter Outside of docs/RULES.md: on which side of the knots of an axis a point lies, and what the axis's mode makes of one outside.
use Rattle.std.specs.Prelude.{◌≡◌, Bool, true, false, cond, List, [], ◌∷◌, ℕ, ◌-◌, get_or, length, Float}
use Rattle.std.specs.Float.Ieee.{lt}
use Rattle.rules.specs.Numbers.{at, any, table}
use Rattle.rules.specs.Sizes.{unused_axis, Grid, points, condition, knots}
use Rattle.rules.specs.declared.Axis.{Axis}
use Rattle.rules.specs.declared.Mode.{Mode}
use Rattle.rules.specs.declared.Mode.TheVariants.{Extend, Hold, Refuse}
use Rattle.rules.specs.declared.Side.{Side}
use Rattle.rules.specs.declared.Side.TheVariants.{Below, Inside, Above}

-- the number of a mode
abbrev pub mode_number : Mode → ℕ
mode_number Extend = 0
mode_number Hold = 1
mode_number Refuse = 2

-- the mode of axis i
abbrev pub mode_at : Grid → ℕ → Mode
mode_at g i = (get_or g.entries i unused_axis).mode

-- on which side of the knots a point lies: below the first, then above the last, else inside, as on an end knot
unfoldable pub side : List Float → Float → Side
side x p = cond (lt p (at x 0)) Below (cond (lt (at x (length x - 1)) p) Above Inside)

-- the end knot that is nearest to a point on that side, and inside the point itself
abbrev pub nearest : Side → List Float → Float → Float
nearest Below x p = at x 0
nearest Inside x p = p
nearest Above x p = at x (length x - 1)

-- the coordinate at which a query works its value out: hold takes the nearest end knot
abbrev pub placed : Mode → List Float → Float → Float
placed Extend x p = p
placed Hold x p = nearest (side x p) x p
placed Refuse x p = p

-- the same on each axis
abbrev pub placed_on : Grid → (ℕ → Float) → ℕ → Float
placed_on g point i = placed (mode_at g i) (knots g i) (point i)

-- whether a side is not the inside
abbrev pub outside : Side → Bool
outside Below = true
outside Inside = false
outside Above = true

-- 18: the mode is refuse, and the point lies outside
abbrev pub outside_refused : Mode → Side → Bool
outside_refused Extend s = false
outside_refused Hold s = false
outside_refused Refuse s = outside s

-- 18 of a grid: so for an axis in use
abbrev pub some_outside_refused : Grid → (ℕ → Float) → Bool
some_outside_refused g point = any (λ i. outside_refused (mode_at g i) (side (knots g i) (point i))) g.axes

-- a mode with extend for hold
abbrev pub released : Mode → Mode
released Extend = Extend
released Hold = Extend
released Refuse = Refuse

-- the same of each of a list of axes
abbrev pub let_go : List Axis → List Axis
let_go [] = []
let_go (axis ∷ rest) = record { points = axis.points; condition = axis.condition; mode = released axis.mode } ∷ let_go rest

-- the coordinates with those in hold replaced by the nearest end knot where they lie outside
abbrev pub replaced : Grid → List Float → List Float
replaced g coordinates = table (length coordinates) (placed_on g (at coordinates))

-- ---- grids that differ in their modes

-- a grid with other axes for its own
abbrev pub with_axes : Grid → List Axis → Grid
with_axes g all = record { axes = g.axes; entries = all; flat_knots = g.flat_knots }

-- axes that are, but for their modes, those of a grid
pub record ButForModes (g : Grid) (all : List Axis) : Type 0 where
  pub same_points : (i : ℕ) → points g i ≡ points (with_axes g all) i
  pub same_condition : (i : ℕ) → condition g i ≡ condition (with_axes g all) i
