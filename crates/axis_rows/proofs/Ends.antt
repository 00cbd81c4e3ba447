-- The row of a NotAKnot at the upper end, with the difference of the last two slopes in place of u.
use native.Mathlib.Omega.{arith}
use mathlib.Core.Path.{◌≡◌, ap}
use mathlib.Core.List.{List}
use Prim.Native.Nat.{ℕ, ◌+◌, ◌-◌, ◌≤◌}
use lib.ListN.{length}
use lib.Ieee.{Float}
use Rattle.rules.specs.Numbers.{◌⊕◌, ◌⊖◌, ◌⊗◌, two, six}
use Rattle.rules.specs.Steps.{h, s, u}
use Rattle.rules.specs.Moments.{upper_row}
use Rattle.rules.specs.declared.End.TheVariants.{NotAKnot}
use Rattle.axis_rows.specs.Rows.{upper_end_row}
use Rattle.axis_rows.specs.declared.EndRow.{EndRow}

u_of_the_last_two : (x y : List Float) (n : ℕ) → 2 ≤ n → six ⊗ (s x y (n - 1) ⊖ s x y (n - 2)) ≡ u x y (n - 2)
unfolding u
u_of_the_last_two x y n more =
    ap (λ (k : ℕ). six ⊗ (s x y k ⊖ s x y (n - 2))) (let e : n - 1 ≡ n - 2 + 1 = omega arith in e)

module _ (x y : List Float) (more : 3 ≤ length x) where
  abbrev n : ℕ
  n = length x - 1

  -- the row as a function of its right side
  abbrev with_right : Float → EndRow
  with_right r = record {
    dropped = 1;
    row = record {
      diagonal = (h x (n - 2) ⊕ h x (n - 1)) ⊗ (two ⊗ h x (n - 2) ⊕ h x (n - 1));
      neighbour = h x (n - 2) ⊗ h x (n - 2) ⊖ h x (n - 1) ⊗ h x (n - 1);
      right = r;
    };
  }

  pub upper_not_a_knot : with_right (h x (n - 2) ⊗ (six ⊗ (s x y (n - 1) ⊖ s x y (n - 2)))) ≡ upper_end_row x y NotAKnot
  unfolding upper_row
  upper_not_a_knot = ap (λ (v : Float). with_right (h x (n - 2) ⊗ v)) (u_of_the_last_two x y n (omega arith))
