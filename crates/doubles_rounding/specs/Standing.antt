-- A whole number in place of a fraction, near enough to round alike. What is lost below a word's last place is kept as that place: an odd
-- number lies on the same side of every tie as the fraction that it stands for.
use Rattle.std.specs.Prelude.{◌≡◌, ◌⊎◌, ℕ, ◌+◌, ◌*◌, ◌%◌, ◌<◌}

-- n is odd, and less than 1 away from u / v
pub record Near (n u v : ℕ) : Type 0 where
  pub odd : n % 2 ≡ 1
  pub above : n * v < u + v
  pub below : u < n * v + v

-- r stands for u / v: it is that number, or near to it
pub record StandsFor (r u v : ℕ) : Type 0 where
  pub stands : (r * v ≡ u) ⊎ Near r u v
