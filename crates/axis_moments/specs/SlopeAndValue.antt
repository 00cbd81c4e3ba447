-- What the knot slope and the value in a cell are computed from.
use Rattle.std.specs.Prelude.{List, ◌≤◌, length, Float}

-- a sample and a moment for each of at least two knots
pub record AxisLengths (x y m : List Float) : Type 0 where
  pub least : 2 ≤ length x
  pub samples : length x ≤ length y
  pub moments : length x ≤ length m
