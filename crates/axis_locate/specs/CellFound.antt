-- What the cell is, of any knots, and of those that no call refuses.
use Rattle.std.specs.Prelude.{◌≡◌, true, List, ℕ, ◌+◌, ◌-◌, ◌<◌, length, Float}
use Rattle.std.specs.Float.Ieee.{lt}
use Rattle.std.specs.Float.Ieee.Scale.{finite}
use Rattle.rules.specs.Numbers.{at}
use Rattle.rules.specs.Locate.{locate}
use Rattle.rules.specs.Outside.{side, placed, outside_refused}
use Rattle.rules.specs.Search.{lower_index}
use Rattle.rules.specs.declared.Mode.{Mode}
use Rattle.axis_locate.specs.declared.outside.PlacedPoint.{PlacedPoint}

-- n knots, all finite, each below the next
pub record Rising (knots : List Float) (n : ℕ) : Type 0 where
  pub count : length knots ≡ n
  pub finite : (k : ℕ) → k < n → finite (at knots k) ≡ true
  pub rise : (k : ℕ) → k + 1 < n → lt (at knots k) (at knots (k + 1)) ≡ true

-- the cell of a point: on rising knots that of the rules
pub record Located (knots : List Float) (point : Float) (cell : ℕ) : Type 0 where
  pub found : cell ≡ lower_index knots point
  pub inside : cell + 1 < length knots
  pub rising : {n : ℕ} → Rising knots n → finite point ≡ true → cell ≡ locate knots (n - 1) point

-- what a mode makes of a point on an axis: the coordinate that stands for it, and whether it is refused
pub record Placed (mode : Mode) (knots : List Float) (point : Float) (r : PlacedPoint) : Type 0 where
  pub coordinate : r.coordinate ≡ placed mode knots point
  pub refused : r.refused ≡ outside_refused mode (side knots point)
