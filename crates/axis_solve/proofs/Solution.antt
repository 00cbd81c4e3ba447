-- The helper rows and the way back together: the result of the definition.
use native.Mathlib.Omega.{arith}
use mathlib.Core.Path.{◌≡◌, ◌∙◌}
use mathlib.Core.List.{List}
use Prim.Native.Nat.{ℕ, zero, suc, ◌-◌, ◌≤◌}
use lib.Ieee.{Float}
use Rattle.rules.specs.Solve.{before_last, thomas}
use Rattle.axis_solve.specs.RowsSolved.{of_rows, Eliminated, Substituted, Solved}
use Rattle.grid_scratch.specs.Layout.{row}

module _ (w₀ w₁ w₂ : List Float) (l to : ℕ) (last : Float) (forth : Eliminated w₀ w₁ l to last) (back : Substituted w₁ w₂ l to last 0) where
  before : (j : ℕ) → j ≤ l → row w₂ to (l - j) ≡ of_rows before_last w₀ l j
  unfolding before_last
  before zero h =
      let e : l - 0 ≡ l = omega arith in
      rw e (back.at_last ∙ forth.last_is)
  before (suc j) h =
      let e : suc (l - suc j) ≡ l - j = omega arith in
      cc (
        back.next (l - suc j) (omega arith) (omega arith),
        forth.second (l - suc j) (omega arith),
        forth.first (l - suc j) (omega arith),
        before j (omega arith),
      )

  pub solved : Solved w₀ w₂ l to
  unfolding thomas
  solved = record {
    same_length = back.same_length ∙ forth.same_length;
    result = λ k h. let e : l - (l - k) ≡ k = omega arith in rw e at (before (l - k) (omega arith));
    kept = λ j o p. back.kept j (λ k a b. p k (omega arith)) ∙ forth.kept j o p;
  }
