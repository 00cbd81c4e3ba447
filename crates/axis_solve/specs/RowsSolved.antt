-- What the tridiagonal solve leaves in the scratch.
use Rattle.std.specs.Prelude.{◌≡◌, ◌≢◌, List, ℕ, suc, ◌+◌, ◌<◌, ◌≤◌, length, Float}
use Rattle.rules.specs.Numbers.{at, ◌⊖◌, ◌⊗◌}
use Rattle.rules.specs.Sizes.{scratch_of_rows}
use Rattle.rules.specs.Solve.{cp, dp, thomas}
use Rattle.grid_scratch.specs.Layout.{row_length, rows, sub_row, diag_row, sup_row, rhs_row, cp_row, z_row, tensor_begin, row, Outside}

-- a definition of a solve, at the rows of w
abbrev pub of_rows : {A : Type 0} → ((ℕ → Float) → (ℕ → Float) → (ℕ → Float) → (ℕ → Float) → A) → List Float → A
of_rows f w = f (row w sub_row) (row w diag_row) (row w sup_row) (row w rhs_row)

-- a scratch with all its rows, and a last row that it can hold
pub record RowsGiven (w : List Float) (l : ℕ) : Type 0 where
  pub room : scratch_of_rows ≤ length w
  pub fit : l < row_length

-- a place for the second helper row and the result over it: behind the first helper row, and before the tensor
pub record ResultPlace (l to : ℕ) : Type 0 where
  pub behind : z_row ≤ to
  pub inside : to + l < tensor_begin

-- the way forth: the two helper rows, the second from `to` on, without its last number
pub record Eliminated (w w' : List Float) (l to : ℕ) (last : Float) : Type 0 where
  pub same_length : length w' ≡ length w
  pub first : (k : ℕ) → k < l → row w' cp_row k ≡ of_rows cp w k
  pub second : (k : ℕ) → k < l → row w' to k ≡ of_rows dp w k
  pub last_is : last ≡ of_rows dp w l
  pub kept : (j : ℕ) → Outside cp_row (rows 1) j → Outside to (suc l) j → at w' j ≡ at w j

-- the way back from the second helper row's last number, come down to row `from`: each number over that row's, from the one after it
pub record Substituted (w w' : List Float) (l to : ℕ) (last : Float) (from : ℕ) : Type 0 where
  pub same_length : length w' ≡ length w
  pub at_last : row w' to l ≡ last
  pub next : (k : ℕ) → from ≤ k → k < l → row w' to k ≡ row w to k ⊖ row w cp_row k ⊗ row w' to (suc k)
  pub kept : (j : ℕ) → ((k : ℕ) → from ≤ k → k ≤ l → j ≢ to + k) → at w' j ≡ at w j

-- a whole solve: the result from `to` on
pub record Solved (w w' : List Float) (l to : ℕ) : Type 0 where
  pub same_length : length w' ≡ length w
  pub result : (k : ℕ) → k ≤ l → row w' to k ≡ of_rows thomas w l k
  pub kept : (j : ℕ) → Outside cp_row (rows 1) j → Outside to (suc l) j → at w' j ≡ at w j
