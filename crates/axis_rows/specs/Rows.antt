-- What the rows of a lane are, and what stands in the scratch once they are written.
use Rattle.std.specs.Prelude.{◌≡◌, ◌≢◌, List, ℕ, ◌+◌, ◌-◌, ◌<◌, ◌≤◌, length, take, Float}
use Rattle.rules.specs.Numbers.{at, ◌⊕◌, ◌⊖◌, ◌⊗◌, two, six}
use Rattle.rules.specs.Ends.{dropped}
use Rattle.rules.specs.Sizes.{scratch_of_rows}
use Rattle.rules.specs.Steps.{h, s, u}
use Rattle.rules.specs.Moments.{lower_row, upper_row}
use Rattle.rules.specs.declared.End.{End}
use Rattle.rules.specs.declared.Row.{Row}
use Rattle.axis_rows.specs.declared.EndRow.{EndRow}
use Rattle.grid_scratch.specs.Layout.{row_length, rows, sub_row, sub_before, diag_row, sup_row, rhs_row, row, Outside}

-- an end's row, with how many unknowns its kind drops beside it
abbrev pub lower_end_row : List Float → List Float → End → EndRow
lower_end_row x y end = record { dropped = dropped end; row = lower_row x y (length x - 1) end }

abbrev pub upper_end_row : List Float → List Float → End → EndRow
upper_end_row x y end = record { dropped = dropped end; row = upper_row x y (length x - 1) end }

-- the lane's samples, one for each knot
abbrev pub samples_in : List Float → List Float → List Float
samples_in w x = take (length x) w

-- a scratch with all its rows, and knots that one row can hold
pub record RowsFit (w x : List Float) : Type 0 where
  pub room : scratch_of_rows ≤ length w
  pub least : 2 ≤ length x
  pub most : length x ≤ row_length

-- the rows 1 to stop - 1 of an axis, row j at knot start + j
pub record InteriorRows (w w' x y : List Float) (start stop : ℕ) : Type 0 where
  pub same_length : length w' ≡ length w
  pub sub : (j : ℕ) → j + 1 < stop → row w' sub_row j ≡ h x (start + j)
  pub diag : (j : ℕ) → 0 < j → j < stop → row w' diag_row j ≡ two ⊗ (h x (start + j - 1) ⊕ h x (start + j))
  pub sup : (j : ℕ) → 0 < j → j < stop → row w' sup_row j ≡ h x (start + j)
  pub rhs : (j : ℕ) → 0 < j → j < stop → row w' rhs_row j ≡ u x y (start + j - 1)
  pub kept : (j : ℕ) → Outside sub_row (rows 4) j → at w' j ≡ at w j

-- the first row, that of the lower end
pub record FirstRow (w w' : List Float) (lower : Row) : Type 0 where
  pub same_length : length w' ≡ length w
  pub diag : at w' diag_row ≡ lower.diagonal
  pub sup : at w' sup_row ≡ lower.neighbour
  pub rhs : at w' rhs_row ≡ lower.right
  pub kept : (j : ℕ) → j ≢ diag_row → j ≢ sup_row → j ≢ rhs_row → at w' j ≡ at w j

-- the last row, row l, that of the upper end; its neighbour stands in sub one place before
pub record LastRow (w w' : List Float) (l : ℕ) (upper : Row) : Type 0 where
  pub same_length : length w' ≡ length w
  pub sub : at w' (sub_before + l) ≡ upper.neighbour
  pub diag : at w' (diag_row + l) ≡ upper.diagonal
  pub rhs : at w' (rhs_row + l) ≡ upper.right
  pub kept : (j : ℕ) → j ≢ sub_before + l → j ≢ diag_row + l → j ≢ rhs_row + l → at w' j ≡ at w j

-- the first row of a periodic axis: its lower neighbour is the last knot
abbrev pub periodic_row : List Float → List Float → Row
periodic_row x y = record {
  diagonal = two ⊗ (h x (length x - 1 - 1) ⊕ h x 0);
  neighbour = h x 0;
  right = six ⊗ (s x y 0 ⊖ s x y (length x - 1 - 1));
}
