-- The digits m of the smaller number with ten places behind them, moved down by d places to the larger one's scale.
use Rattle.std.specs.Prelude.{◌≡◌, ◌⊎◌, ℕ, ◌*◌, ◌^◌, ◌<◌, ◌≤◌}
use Rattle.doubles_patterns.specs.Patterns.{leading}
use Rattle.doubles_rounding.specs.Standing.{Near}

-- r is odd and near to m * 1024 / 2 ^ d; something is lost by more than ten places alone
pub record Lost (m d r : ℕ) : Type 0 where
  pub near : Near r (m * 1024) (2 ^ d)
  pub far : 10 < d
  pub small : r ≤ leading

-- r stands for m * 1024 / 2 ^ d
pub record Aligned (m d r : ℕ) : Type 0 where
  pub stands : (r * 2 ^ d ≡ m * 1024) ⊎ Lost m d r
  pub most : r ≤ m * 1024
