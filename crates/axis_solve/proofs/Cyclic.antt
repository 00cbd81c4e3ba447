-- The steps of `cyclic_thomas` together: the result of the definition.
use native.Mathlib.Omega.{arith}
use mathlib.Core.Bool.{cond}
use mathlib.Core.Path.{◌≡◌, ◌∙◌}
use mathlib.Core.Logic.{⊎_elim}
use mathlib.Core.List.{List}
use Prim.Native.Nat.{ℕ, zero, suc, ◌+◌, ◌<◌, ◌≤◌}
use native.Mathlib.Nat.{eq-or-lt_of_le}
use lib.Dec.{eqb}
use lib.Ieee.{Float, neg}
use borrow.Author.Tests.{eq-eqb, ne_eqb}
use Rattle.rules.specs.Numbers.{at}
use Rattle.rules.specs.Solve.{diag_mod, u_vec, y, z, factor, cyclic_thomas}
use Rattle.axis_solve.specs.RowsSolved.{of_rows, RowsGiven, Solved}
use Rattle.grid_scratch.specs.Layout.{row}
use Rattle.axis_solve.specs.Cyclic.{DiagMod, UVec, factor_of, Subtracted, CyclicSolved}
use Rattle.axis_solve.proofs.Agreement.{same_thomas}

-- a row by its first number, its last and those between
by_ends : (f a b c : ℕ → Float) (l : ℕ) → f 0 ≡ a 0 → f l ≡ b l → ((k : ℕ) → 0 < k → k < l → f k ≡ c k)
    → (k : ℕ) → k ≤ l → f k ≡ cond (eqb k 0) (a k) (cond (eqb k l) (b k) (c k))
by_ends f a b c l first last between zero h = first
by_ends f a b c l first last between (suc k) h =
    rw (ne_eqb (suc k) 0 (omega arith))
    (⊎_elim
    (λ e. rw (eq-eqb (suc k) l e) (cc))
    (λ lt. rw (ne_eqb (suc k) l (omega arith)) (between (suc k) (omega arith) lt))
    (eq-or-lt_of_le h))

module _
    (w₀ w₁ w₂ w₃ w₄ w₅ : List Float) (l : ℕ) (corner f : Float) (given : RowsGiven w₀ l)
    (modified : DiagMod w₀ w₁ l (neg (at w₀ 512)) corner)
    (first : Solved w₁ w₂ l 1792)
    (right : UVec w₂ w₃ l (neg (at w₀ 512)) corner)
    (second : Solved w₃ w₄ l 1536)
    (f_is : f ≡ factor_of w₄ l (neg (at w₀ 512)) corner)
    (subtracted : Subtracted w₄ w₅ (l + 1) f)
  where
    same_diag : (k : ℕ) → k ≤ l → row w₁ 512 k ≡ of_rows diag_mod w₀ corner l k
    unfolding diag_mod
    same_diag =
        by_ends (row w₁ 512) _ _ _ l modified.first modified.last
        (λ k a b. modified.kept (512 + k) (omega arith) (omega arith))

    same_rhs : (k : ℕ) → k ≤ l → row w₃ 1024 k ≡ of_rows u_vec w₀ corner l k
    unfolding u_vec
    same_rhs = by_ends (row w₃ 1024) _ _ _ l right.first right.last right.between

    before_right : (j : ℕ) → j < 1024 → at w₃ j ≡ at w₁ j
    before_right j h = right.kept j (omega arith) ∙ first.kept j (omega arith) (omega arith)

    y_is : (k : ℕ) → k ≤ l → row w₄ 1792 k ≡ of_rows y w₀ corner l k
    unfolding y
    y_is k h =
        second.kept (1792 + k) (omega arith) (omega arith)
        ∙ right.kept (1792 + k) (omega arith)
        ∙ first.result k h
        ∙ same_thomas _ _ _ _ _ _ _ _ l
        (λ i a. modified.kept (256 + i) (omega arith) (omega arith))
        same_diag
        (λ i a. modified.kept (768 + i) (omega arith) (omega arith))
        (λ i a. modified.kept (1024 + i) (omega arith) (omega arith))
        k

    z_is : (k : ℕ) → k ≤ l → row w₄ 1536 k ≡ of_rows z w₀ corner l k
    unfolding z
    z_is k h =
        second.result k h
        ∙ same_thomas _ _ _ _ _ _ _ _ l
        (λ i a. before_right (256 + i) (omega arith) ∙ modified.kept (256 + i) (omega arith) (omega arith))
        (λ i a. before_right (512 + i) (omega arith) ∙ same_diag i a)
        (λ i a. before_right (768 + i) (omega arith) ∙ modified.kept (768 + i) (omega arith) (omega arith))
        same_rhs
        k

    factor_is : f ≡ of_rows factor w₀ corner l
    unfolding factor
    factor_is = cc (f_is, y_is 0 (omega arith), y_is l (omega arith), z_is 0 (omega arith), z_is l (omega arith))

    pub cyclic_solved : CyclicSolved w₀ w₅ l corner
    unfolding cyclic_thomas
    cyclic_solved = record {
      same_length =
          subtracted.same_length ∙ second.same_length ∙ right.same_length ∙ first.same_length ∙ modified.same_length;
      result = λ k h.
          cc (
            subtracted.result k (omega arith),
            y_is k h,
            z_is k h,
            factor_is,
          );
      kept = λ j o p.
          subtracted.kept j (λ k h. omega (arith, p (768 + k) (omega arith)))
          ∙ second.kept j (λ k h. omega (arith, p (256 + k) (omega arith))) (λ k h. omega (arith, p (512 + k) (omega arith)))
          ∙ right.kept j (λ k h. p k (omega arith))
          ∙ first.kept j (λ k h. omega (arith, p (256 + k) (omega arith))) (λ k h. omega (arith, p (768 + k) (omega arith)))
          ∙ modified.kept j (omega (arith, o 0 (omega arith))) (o l (omega arith));
    }
