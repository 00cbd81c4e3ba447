-- By how many places r a number s is moved up, so that of s * 2 ^ e / 1024 units the digits that are kept stand above the last eleven
-- places.
use Rattle.std.specs.Prelude.{◌≡◌, ℕ, ◌+◌, ◌-◌, ◌*◌, ◌^◌, ◌<◌, ◌≤◌}
use Rattle.std.specs.Float.Ieee.Order.{drop}
use Rattle.doubles_patterns.specs.Patterns.{word}

pub record Shifted (s e r : ℕ) : Type 0 where
  pub most : r ≤ e + 1
  pub narrow : r < 64
  pub fits : s * 2 ^ r < word
  pub dropped : drop 53 (s * 2 ^ e) 1024 ≡ e + 1 - r
