-- What callers of `tensor_of_sheet` lend so that it refuses nothing of theirs.
use Rattle.std.specs.Prelude.{◌≡◌, ℕ, ◌≤◌}

-- lengths of knots, samples, tensor and scratch that are enough for every sheet
pub record Enough (k s t w : ℕ) : Type 0 where
  pub knots : k ≡ 1024
  pub samples : s ≡ 1024
  pub tensor : t ≡ 4096
  pub scratch : 6144 ≤ w
