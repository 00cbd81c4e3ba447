-- The chapter Step of docs/RULES.md: whether a point is a knot, the knot that it steps to on one axis, and the sample at the indices of all
-- axes.
use Rattle.std.specs.Prelude.{cond, List, ℕ, ◌+◌, ◌-◌, Float, Option, Some, None}
use Rattle.std.specs.Float.Ieee.{eq}
use Rattle.rules.specs.Numbers.{at}
use Rattle.rules.specs.Sizes.{Grid, points, knots, Place, flat}
use Rattle.rules.specs.Locate.{locate}
use Rattle.rules.specs.Query.{fraction}
use Rattle.rules.specs.declared.StepDirection.{StepDirection}
use Rattle.rules.specs.declared.StepDirection.TheVariants.{Lower, Upper}
use Rattle.rules.specs.declared.AxisLocation.{AxisLocation}
use Rattle.rules.specs.declared.AxisLocation.TheVariants.{Exact, Between}

-- which of a knot and the next equals the point, the lower one first
unfoldable pub exact_index : List Float → ℕ → Float → Option ℕ
exact_index x lower p =
    cond (eq (at x lower) p) (Some lower)
    (cond (eq (at x (lower + 1)) p) (Some (lower + 1)) None)

-- the location of a point in cell `lower`: the index that was found, and where none was the cell and the fraction
unfoldable pub location : List Float → ℕ → Float → Option ℕ → AxisLocation
unfolding fraction
location x lower p (Some index) = Exact index
location x lower p None = Between lower (fraction x lower p)

-- where a point lies among n + 1 knots
unfoldable pub locate_axis : List Float → ℕ → Float → AxisLocation
unfolding locate exact_index location
locate_axis x n p = location x (locate x n p) p (exact_index x (locate x n p) p)

-- the step downward: the last knot where the point equals it, the upper knot of the cell where it equals that, else the lower one
unfoldable pub lower_step : List Float → ℕ → Float → ℕ
unfolding locate
lower_step x n p =
    cond (eq p (at x n)) n
    (cond (eq p (at x (locate x n p + 1))) (locate x n p + 1)
    (locate x n p))

-- the step upward: the first knot where the point equals it, else the upper knot of the cell
unfoldable pub upper_step : List Float → ℕ → Float → ℕ
unfolding locate
upper_step x n p = cond (eq p (at x 0)) 0 (locate x n p + 1)

-- the index of the step among n + 1 knots
abbrev pub step_index : StepDirection → List Float → ℕ → Float → ℕ
step_index Lower x n p = lower_step x n p
step_index Upper x n p = upper_step x n p

-- the place that a point steps to: on each axis the index of its step, in the axis's own direction
unfoldable pub stepped_place : Grid → (ℕ → StepDirection) → (ℕ → Float) → Place
unfolding lower_step upper_step
stepped_place g directions point i = step_index (directions i) (knots g i) (points g i - 1) (point i)

-- the stepped surface's value at a point: the sample there
unfoldable pub stepped : Grid → (ℕ → StepDirection) → List Float → (ℕ → Float) → Float
unfolding flat stepped_place
stepped g directions samples point = at samples (flat (points g) g.axes (stepped_place g directions point))
