-- What is told of the lowest axis that lacks a quality, or that none lacks it.
use Rattle.std.specs.Prelude.{◌≡◌, true, false, List, ℕ, Option, Some, None, Float}
use Rattle.rules.specs.Numbers.{any}
use Rattle.rules.specs.Sizes.{Grid, points, knots}
use Rattle.rules.specs.Refusals.{some_number_refused, some_knots_refused}
use Rattle.rules.specs.Even.{some_uneven_refused}
use Rattle.rules.specs.declared.Axis.{Axis}
use Rattle.grid.specs.GridOfCall.{grid}
use Rattle.query_answer.specs.PointsAndModes.{PointsOf}
use Rattle.query_even.specs.Qualities.{lacks, lacking_axis, lacking_place}
use Rattle.query_even.specs.declared.qualities.Quality.{Quality}
use Rattle.query_even.specs.declared.qualities.Lack.{Lack}

-- the axis and the place of the rules are those of an axis that lacks it
pub record LackIs (quality : Quality) (g : Grid) (lack : Lack) : Type 0 where
  pub some : any (λ i. lacks quality (knots g i) (points g i)) g.axes ≡ true
  pub axis : lack.axis ≡ lacking_axis quality g
  pub place : lack.place ≡ lacking_place quality g

-- no axis does, or these are
abbrev pub FirstLack : Quality → Grid → Option Lack → Type 0
FirstLack quality g None = any (λ i. lacks quality (knots g i) (points g i)) g.axes ≡ false
FirstLack quality g (Some lack) = LackIs quality g lack

-- so of any axes that have these points
abbrev pub LackAmong : Quality → ℕ → List ℕ → List Float → Option Lack → Type 0
LackAmong quality axes points x r = (all : List Axis) → PointsOf axes points all → FirstLack quality (grid axes all x) r

-- the knots pass 7, 8 and 21
pub record KnotsPass (g : Grid) : Type 0 where
  pub finite : some_number_refused g.flat_knots ≡ false
  pub rise : some_knots_refused g ≡ false
  pub even : some_uneven_refused g ≡ false

-- so of any axes that have these points
abbrev pub PassAmong : ℕ → List ℕ → List Float → Type 0
PassAmong axes points x = (all : List Axis) → PointsOf axes points all → KnotsPass (grid axes all x)
