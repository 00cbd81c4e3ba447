-- What the steps of `compute_m` leave in the scratch: the moments, in their row.
use Rattle.std.specs.Prelude.{◌≡◌, ◌≢◌, List, ℕ, ◌+◌, ◌-◌, ◌<◌, ◌≤◌, length, Float}
use Rattle.rules.specs.Numbers.{at, ◌⊕◌, ◌⊖◌, ◌⊗◌, ◌⊘◌}
use Rattle.rules.specs.Ends.{dropped}
use Rattle.rules.specs.Steps.{h}
use Rattle.rules.specs.Moments.{inner, moment}
use Rattle.rules.specs.declared.End.{End}
use Rattle.rules.specs.declared.End.TheVariants.{NotAKnot, FirstDerivative, SecondDerivative}
use Rattle.rules.specs.declared.Condition.{Condition}
use Rattle.grid_scratch.specs.Layout.{rows, sub_row, moments_row, row, Outside}
use Rattle.axis_rows.specs.Rows.{samples_in}

-- the rows of both ends solved: the result begins at the first knot that is not dropped
pub record InnerSolved (w w' x : List Float) (lower upper : End) : Type 0 where
  pub same_length : length w' ≡ length w
  pub result : (k : ℕ) → k ≤ length x - 1 - dropped lower - dropped upper
      → row w' moments_row (dropped lower + k) ≡ inner x (samples_in w x) (length x - 1) lower upper k
  pub kept : (j : ℕ) → Outside sub_row (rows 7) j → at w' j ≡ at w j

-- the first moment where the lower end dropped it; else what stood there
unfoldable pub lower_moment : List Float → List Float → End → Float
unfolding h
lower_moment w x NotAKnot = ((h x 0 ⊕ h x 1) ⊗ row w moments_row 1 ⊖ h x 0 ⊗ row w moments_row 2) ⊘ h x 1
lower_moment w x (FirstDerivative v) = row w moments_row 0
lower_moment w x (SecondDerivative v) = row w moments_row 0

-- the last moment, with n points minus 1, where the upper end dropped it; else what stood there
unfoldable pub upper_moment : List Float → List Float → ℕ → End → Float
unfolding h
upper_moment w x n NotAKnot =
    ((h x (n - 2) ⊕ h x (n - 1)) ⊗ row w moments_row (n - 1) ⊖ h x (n - 1) ⊗ row w moments_row (n - 2)) ⊘ h x (n - 2)
upper_moment w x n (FirstDerivative v) = row w moments_row n
upper_moment w x n (SecondDerivative v) = row w moments_row n

-- one number stored at a place
pub record OneStored (w w' : List Float) (place : ℕ) (v : Float) : Type 0 where
  pub same_length : length w' ≡ length w
  pub value : at w' place ≡ v
  pub kept : (j : ℕ) → j ≢ place → at w' j ≡ at w j

-- the moments of a lane under a condition; the samples and all from the tensor on stand as they were
pub record MomentsSolved (w w' x : List Float) (condition : Condition) : Type 0 where
  pub same_length : length w' ≡ length w
  pub result : (k : ℕ) → k < length x → row w' moments_row k ≡ moment x (samples_in w x) (length x - 1) condition k
  pub kept : (j : ℕ) → Outside sub_row (rows 7) j → at w' j ≡ at w j
