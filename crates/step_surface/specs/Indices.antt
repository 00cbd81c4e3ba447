-- The indices of the steps, axis by axis, and the number of their place.
use Rattle.std.specs.Prelude.{◌≡◌, List, ℕ, ◌-◌, ◌<◌, ◌≤◌, length, take, drop, Float}
use Rattle.rules.specs.Numbers.{at}
use Rattle.rules.specs.Sizes.{most_axes, sum_below, place_of, flat}
use Rattle.rules.specs.Step.{step_index}
use Rattle.rules.specs.StepCalls.{direction}
use Rattle.rules.specs.declared.StepDirection.{StepDirection}

-- of axes with n k points on axis k: the indices on the first i are the steps', on the grid, their place has this number, and past them
-- stand zeros
pub record OnAxes (n : ℕ → ℕ) (x : List Float) (directions : List StepDirection) (coordinates : List Float) (i number : ℕ)
    (indices : List ℕ) : Type 0 where
  pub four : length indices ≡ most_axes
  pub found :
      (j : ℕ) → j < i
      → place_of indices j ≡ step_index (direction directions j) (take (n j) (drop (sum_below n j) x)) (n j - 1) (at coordinates j)
  pub inside : (j : ℕ) → j < i → place_of indices j < n j
  pub unused : (j : ℕ) → i ≤ j → j < most_axes → place_of indices j ≡ 0
  pub numbered : number ≡ flat n i (place_of indices)
