-- What the pass over the points of the axes finds of a grid's sizes.
use Rattle.std.specs.Prelude.{◌≡◌, ℕ, ◌*◌, ◌^◌, Result}
use Rattle.std.specs.Result.{IfOk}
use Rattle.rules.specs.Sizes.{sum_below, product_below}
use Rattle.rules.specs.Answers.{refusal_of}
use Rattle.rules.specs.declared.Refusal.{Refusal}
use Rattle.grid_checks.specs.Check.{points_check}
use Rattle.grid_checks.specs.declared.sizes.Sizes.{Sizes}

-- how many knots axes with n i points on axis i have together, and how many numbers their tensor
pub record SizesOf (axes : ℕ) (n : ℕ → ℕ) (sizes : Sizes) : Type 0 where
  pub knots : sizes.knots ≡ sum_below n axes
  pub numbers : sizes.numbers ≡ product_below n axes * 2 ^ axes

-- 2 or 3, or else these
pub record SizesFound (axes : ℕ) (n : ℕ → ℕ) (r : Result Sizes Refusal) : Type 0 where
  pub refusal : refusal_of r ≡ points_check axes n
  pub sizes : IfOk r (SizesOf axes n)
