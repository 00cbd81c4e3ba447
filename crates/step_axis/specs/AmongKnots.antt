-- What is found of a point among knots that were accepted.
use Rattle.std.specs.Prelude.{◌≡◌, List, ℕ, ◌-◌, ◌<◌, length, Float}
use Rattle.rules.specs.Step.{locate_axis, step_index}
use Rattle.rules.specs.declared.StepDirection.{StepDirection}
use Rattle.rules.specs.declared.AxisLocation.{AxisLocation}

-- its location
abbrev pub AxisLocated : List Float → Float → AxisLocation → Type 0
AxisLocated knots point location = location ≡ locate_axis knots (length knots - 1) point

-- the index of its step, which is that of a knot
pub record Stepped (direction : StepDirection) (knots : List Float) (point : Float) (index : ℕ) : Type 0 where
  pub found : index ≡ step_index direction knots (length knots - 1) point
  pub among : index < length knots
