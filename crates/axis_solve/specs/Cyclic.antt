-- What the steps of `cyclic_thomas` leave in the scratch: its result in the row of moments; diag and rhs are overwritten.
use Rattle.std.specs.Prelude.{◌≡◌, ◌≢◌, List, ℕ, suc, ◌+◌, ◌<◌, ◌≤◌, length, Float}
use Rattle.rules.specs.Numbers.{at, ◌⊕◌, ◌⊖◌, ◌⊗◌, ◌⊘◌, plus_zero, one}
use Rattle.rules.specs.Solve.{cyclic_thomas}
use Rattle.axis_solve.specs.RowsSolved.{of_rows}
use Rattle.grid_scratch.specs.Layout.{rows, diag_row, rhs_row, z_row, moments_row, row, Outside}

-- the diagonal without the corners
pub record DiagMod (w w' : List Float) (l : ℕ) (gamma corner : Float) : Type 0 where
  pub same_length : length w' ≡ length w
  pub first : row w' diag_row 0 ≡ row w diag_row 0 ⊖ gamma
  pub last : row w' diag_row l ≡ row w diag_row l ⊖ corner ⊗ corner ⊘ gamma
  pub kept : (j : ℕ) → j ≢ diag_row → j ≢ diag_row + l → at w' j ≡ at w j

-- the right side of the second solve
pub record UVec (w w' : List Float) (l : ℕ) (gamma corner : Float) : Type 0 where
  pub same_length : length w' ≡ length w
  pub first : row w' rhs_row 0 ≡ gamma
  pub last : row w' rhs_row l ≡ corner
  pub between : (k : ℕ) → 0 < k → k < l → row w' rhs_row k ≡ plus_zero
  pub kept : (j : ℕ) → Outside rhs_row (suc l) j → at w' j ≡ at w j

-- `factor`, with y in the row of moments and z in its own
abbrev pub factor_of : List Float → ℕ → Float → Float → Float
factor_of w l gamma corner =
    (row w moments_row 0 ⊕ corner ⊘ gamma ⊗ row w moments_row l) ⊘ (one ⊕ (row w z_row 0 ⊕ corner ⊘ gamma ⊗ row w z_row l))

-- y less factor times z, in the place of the first n numbers of y
pub record Subtracted (w w' : List Float) (n : ℕ) (factor : Float) : Type 0 where
  pub same_length : length w' ≡ length w
  pub result : (k : ℕ) → k < n → row w' moments_row k ≡ row w moments_row k ⊖ factor ⊗ row w z_row k
  pub kept : (j : ℕ) → Outside moments_row n j → at w' j ≡ at w j

-- a whole cyclic solve: the result in the row of moments; diag and all from rhs to the tensor may have changed
pub record CyclicSolved (w w' : List Float) (l : ℕ) (corner : Float) : Type 0 where
  pub same_length : length w' ≡ length w
  pub result : (k : ℕ) → k ≤ l → row w' moments_row k ≡ of_rows cyclic_thomas w corner l k
  pub kept : (j : ℕ) → Outside diag_row (rows 1) j → Outside rhs_row (rows 4) j → at w' j ≡ at w j
