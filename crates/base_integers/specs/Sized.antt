-- How far a whole number lies from zero at most.
use Rattle.std.specs.Prelude.{ℕ, ◌≤◌, ℤ, nat_abs}

pub record Sized (most : ℕ) (z : ℤ) : Type 0 where
  pub sized : nat_abs z ≤ most
