-- The sum of two doubles in either order, since the one of larger magnitude is taken first.
use Rattle.std.specs.Prelude.{◌≡◌, ℕ}
use Rattle.doubles_patterns.specs.Doubles.{sum_pattern}

pub record BothOrders (a b r : ℕ) : Type 0 where
  pub forward : r ≡ sum_pattern a b
  pub backward : r ≡ sum_pattern b a
