-- What is known of the two parts of a finite magnitude, its exponent and its digits.
use Rattle.std.specs.Prelude.{◌≡◌, ℕ, ◌+◌, ◌*◌, ◌^◌, ◌<◌, ◌≤◌}
use Rattle.doubles_patterns.specs.Patterns.{leading, units_of}

-- the exponent e and the digits m of p, as its pattern has them
pub record Fields (p e m : ℕ) : Type 0 where
  pub whole : p ≡ e * leading + m
  pub high : e < 2046
  pub short : m < 2 * leading
  pub long : 0 < e → leading ≤ m

-- the digits m of p with the leading one in its place, and the exponent e, 52 more than the pattern has, which goes with them
pub record Raised (p m e : ℕ) : Type 0 where
  pub units : m * 2 ^ e ≡ units_of p * leading
  pub long : leading ≤ m
  pub short : m < 2 * leading
  pub high : e < 2098
