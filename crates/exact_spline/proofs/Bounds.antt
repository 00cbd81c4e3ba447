-- Dominant rows whose right side is bounded have a result with the same bound.
use mathlib.Core.Path.{◌≡◌, sym, subst}
use mathlib.Core.List.{[], ◌∷◌}
use Prim.Native.Nat.{ℕ, zero, suc, ◌+◌, ◌-◌, ◌≤◌}
use native.Mathlib.Omega.{arith}
use Rattle.exact_arithmetic.specs.Arithmetic.{Arithmetic, IsField, IsOrdered}
use Rattle.exact_solver.specs.Expressions.{var, add, sub, mul, div}
use Rattle.exact_solver.proofs.Solver.{solve}
use Rattle.exact_spline.specs.Solve as Solve
use Rattle.exact_spline.specs.Rows.{Dominant, Bounded}
use Rattle.exact_spline.proofs.Thomas as Thomas

module _ (A : Arithmetic) (F : IsField A) (O : IsOrdered A) where
  infixl 60 ◌⊕◌
  infixl 60 ◌⊖◌
  infixl 70 ◌⊗◌
  infixl 70 ◌⊘◌
  open A use {Number, nought, one, two, six, plus as ◌⊕◌, minus as ◌⊖◌, times as ◌⊗◌, over as ◌⊘◌}
  open O use {Positive, positive_one, positive_plus, positive_times, positive_over, positive_not_nought}

  -- one row further: of the row before, s is right of the diagonal, w the pivot and p the right side so far
  module _ (b d t a r w s p : Number) (a_positive : Positive a) (w_positive : Positive w) where
    further_below : Positive (b ⊗ (d ⊖ t ⊖ a) ⊖ r) → Positive (b ⊗ (w ⊖ s) ⊕ w ⊗ p) → Positive (b ⊗ (d ⊖ a ⊗ (s ⊘ w) ⊖ t) ⊖ (r ⊖ a ⊗ p))
    further_below i j =
        subst Positive
        (solve A F 1 (w ∷ b ∷ d ∷ t ∷ a ∷ r ∷ s ∷ p ∷ []) (positive_not_nought w w_positive, tt)
        (add (sub (mul (var 1) (sub (sub (var 2) (var 3)) (var 4))) (var 5))
        (mul (div (var 4) (var 0)) (add (mul (var 1) (sub (var 0) (var 6))) (mul (var 0) (var 7)))))
        (sub (mul (var 1) (sub (sub (var 2) (mul (var 4) (div (var 6) (var 0)))) (var 3))) (sub (var 5) (mul (var 4) (var 7))))
        tt tt tt)
        (positive_plus _ _ i (positive_times _ _ (positive_over _ _ a_positive w_positive) j))

    further_above : Positive (b ⊗ (d ⊖ t ⊖ a) ⊕ r) → Positive (b ⊗ (w ⊖ s) ⊖ w ⊗ p) → Positive (b ⊗ (d ⊖ a ⊗ (s ⊘ w) ⊖ t) ⊕ (r ⊖ a ⊗ p))
    further_above i j =
        subst Positive
        (solve A F 1 (w ∷ b ∷ d ∷ t ∷ a ∷ r ∷ s ∷ p ∷ []) (positive_not_nought w w_positive, tt)
        (add (add (mul (var 1) (sub (sub (var 2) (var 3)) (var 4))) (var 5))
        (mul (div (var 4) (var 0)) (sub (mul (var 1) (sub (var 0) (var 6))) (mul (var 0) (var 7)))))
        (add (mul (var 1) (sub (sub (var 2) (mul (var 4) (div (var 6) (var 0)))) (var 3))) (sub (var 5) (mul (var 4) (var 7))))
        tt tt tt)
        (positive_plus _ _ i (positive_times _ _ (positive_over _ _ a_positive w_positive) j))

  module _ (b d a r w s p : Number) (a_positive : Positive a) (w_positive : Positive w) where
    end_below : Positive (b ⊗ (d ⊖ a) ⊖ r) → Positive (b ⊗ (w ⊖ s) ⊕ w ⊗ p) → Positive (b ⊗ (d ⊖ a ⊗ (s ⊘ w)) ⊖ (r ⊖ a ⊗ p))
    end_below i j =
        subst Positive
        (solve A F 1 (w ∷ b ∷ d ∷ a ∷ r ∷ s ∷ p ∷ []) (positive_not_nought w w_positive, tt)
        (add (sub (mul (var 1) (sub (var 2) (var 3))) (var 4))
        (mul (div (var 3) (var 0)) (add (mul (var 1) (sub (var 0) (var 5))) (mul (var 0) (var 6)))))
        (sub (mul (var 1) (sub (var 2) (mul (var 3) (div (var 5) (var 0))))) (sub (var 4) (mul (var 3) (var 6))))
        tt tt tt)
        (positive_plus _ _ i (positive_times _ _ (positive_over _ _ a_positive w_positive) j))

    end_above : Positive (b ⊗ (d ⊖ a) ⊕ r) → Positive (b ⊗ (w ⊖ s) ⊖ w ⊗ p) → Positive (b ⊗ (d ⊖ a ⊗ (s ⊘ w)) ⊕ (r ⊖ a ⊗ p))
    end_above i j =
        subst Positive
        (solve A F 1 (w ∷ b ∷ d ∷ a ∷ r ∷ s ∷ p ∷ []) (positive_not_nought w w_positive, tt)
        (add (add (mul (var 1) (sub (var 2) (var 3))) (var 4))
        (mul (div (var 3) (var 0)) (sub (mul (var 1) (sub (var 0) (var 5))) (mul (var 0) (var 6)))))
        (add (mul (var 1) (sub (var 2) (mul (var 3) (div (var 5) (var 0))))) (sub (var 4) (mul (var 3) (var 6))))
        tt tt tt)
        (positive_plus _ _ i (positive_times _ _ (positive_over _ _ a_positive w_positive) j))

  -- w times e over w is e
  whole : (w e : Number) → Positive w → e ≡ w ⊗ (e ⊘ w)
  whole w e h = solve A F 1 (w ∷ e ∷ []) (positive_not_nought w h, tt) (var 1) (mul (var 0) (div (var 1) (var 0))) tt tt tt

  module _ (b w e : Number) (h : Positive w) where
    over_below : Positive (b ⊗ w ⊖ e) → Positive (b ⊖ e ⊘ w)
    over_below i =
        subst Positive
        (solve A F 1 (w ∷ b ∷ e ∷ []) (positive_not_nought w h, tt) (div (sub (mul (var 1) (var 0)) (var 2)) (var 0))
        (sub (var 1) (div (var 2) (var 0))) tt tt tt)
        (positive_over _ _ i h)

    over_above : Positive (b ⊗ w ⊕ e) → Positive (b ⊕ e ⊘ w)
    over_above i =
        subst Positive
        (solve A F 1 (w ∷ b ∷ e ∷ []) (positive_not_nought w h, tt) (div (add (mul (var 1) (var 0)) (var 2)) (var 0))
        (add (var 1) (div (var 2) (var 0))) tt tt tt)
        (positive_over _ _ i h)

  -- one number back
  module _ (b w s p v : Number) (h : Positive w) (g : Positive s) where
    back_below : Positive (b ⊗ (w ⊖ s) ⊖ w ⊗ p) → Positive (b ⊕ v) → Positive (b ⊖ (p ⊖ s ⊘ w ⊗ v))
    back_below i j =
        subst Positive
        (solve A F 1 (w ∷ b ∷ s ∷ p ∷ v ∷ []) (positive_not_nought w h, tt)
        (add (div (sub (mul (var 1) (sub (var 0) (var 2))) (mul (var 0) (var 3))) (var 0))
        (mul (div (var 2) (var 0)) (add (var 1) (var 4))))
        (sub (var 1) (sub (var 3) (mul (div (var 2) (var 0)) (var 4))))
        tt tt tt)
        (positive_plus _ _ (positive_over _ _ i h) (positive_times _ _ (positive_over _ _ g h) j))

    back_above : Positive (b ⊗ (w ⊖ s) ⊕ w ⊗ p) → Positive (b ⊖ v) → Positive (b ⊕ (p ⊖ s ⊘ w ⊗ v))
    back_above i j =
        subst Positive
        (solve A F 1 (w ∷ b ∷ s ∷ p ∷ v ∷ []) (positive_not_nought w h, tt)
        (add (div (add (mul (var 1) (sub (var 0) (var 2))) (mul (var 0) (var 3))) (var 0))
        (mul (div (var 2) (var 0)) (sub (var 1) (var 4))))
        (add (var 1) (sub (var 3) (mul (div (var 2) (var 0)) (var 4))))
        tt tt tt)
        (positive_plus _ _ (positive_over _ _ i h) (positive_times _ _ (positive_over _ _ g h) j))

  module _ (sub diag sup rhs : ℕ → Number) (b : Number) (l : ℕ) (dominant : Dominant A sub diag sup O l)
      (bounded : Bounded A sub diag sup O rhs b l) where
    abbrev w : ℕ → Number
    w = Solve.w A sub diag sup rhs

    abbrev dp : ℕ → Number
    dp = Solve.dp A sub diag sup rhs

    positive : (k : ℕ) → k ≤ suc l → Positive (w k)
    positive = Thomas.pivots_positive A F O sub diag sup rhs l dominant

    forward : (k : ℕ) → k ≤ l → Positive (b ⊗ (w k ⊖ sup k) ⊖ w k ⊗ dp k) × Positive (b ⊗ (w k ⊖ sup k) ⊕ w k ⊗ dp k)
    unfolding Solve.w Solve.dp
    forward zero h = (
      subst (λ e. Positive (b ⊗ (diag 0 ⊖ sup 0) ⊖ e)) (whole (diag 0) (rhs 0) (positive 0 (omega arith))) bounded.first_below,
      subst (λ e. Positive (b ⊗ (diag 0 ⊖ sup 0) ⊕ e)) (whole (diag 0) (rhs 0) (positive 0 (omega arith))) bounded.first_above,
    )
    forward (suc k) h =
        let f : Positive (b ⊗ (w k ⊖ sup k) ⊖ w k ⊗ dp k) × Positive (b ⊗ (w k ⊖ sup k) ⊕ w k ⊗ dp k) = forward k (omega arith) in (
          subst (λ e. Positive (b ⊗ (w (suc k) ⊖ sup (suc k)) ⊖ e))
              (whole (w (suc k)) (rhs (suc k) ⊖ sub k ⊗ dp k) (positive (suc k) (omega arith)))
              (further_below b (diag (suc k)) (sup (suc k)) (sub k) (rhs (suc k)) (w k) (sup k) (dp k)
              (bounded.sub_positive k (omega arith)) (positive k (omega arith))
              (bounded.middle_below k h) f.1),
          subst (λ e. Positive (b ⊗ (w (suc k) ⊖ sup (suc k)) ⊕ e))
              (whole (w (suc k)) (rhs (suc k) ⊖ sub k ⊗ dp k) (positive (suc k) (omega arith)))
              (further_above b (diag (suc k)) (sup (suc k)) (sub k) (rhs (suc k)) (w k) (sup k) (dp k)
              (bounded.sub_positive k (omega arith)) (positive k (omega arith))
              (bounded.middle_above k h) f.0),
        )

    forward_last : Positive (b ⊖ dp (suc l)) × Positive (b ⊕ dp (suc l))
    unfolding Solve.w Solve.dp
    forward_last =
        let f : Positive (b ⊗ (w l ⊖ sup l) ⊖ w l ⊗ dp l) × Positive (b ⊗ (w l ⊖ sup l) ⊕ w l ⊗ dp l) = forward l (omega arith) in (
          over_below b (w (suc l)) (rhs (suc l) ⊖ sub l ⊗ dp l) (positive (suc l) (omega arith))
              (end_below b (diag (suc l)) (sub l) (rhs (suc l)) (w l) (sup l) (dp l) (bounded.sub_positive l (omega arith))
              (positive l (omega arith)) bounded.last_below f.1),
          over_above b (w (suc l)) (rhs (suc l) ⊖ sub l ⊗ dp l) (positive (suc l) (omega arith))
              (end_above b (diag (suc l)) (sub l) (rhs (suc l)) (w l) (sup l) (dp l) (bounded.sub_positive l (omega arith))
              (positive l (omega arith)) bounded.last_above f.0),
        )

    abbrev v : ℕ → Number
    v = Solve.thomas A sub diag sup rhs (suc l)

    backward : (j k : ℕ) → k + j ≡ suc l → Positive (b ⊖ v k) × Positive (b ⊕ v k)
    unfolding Solve.cp
    backward zero k e =
        let f : suc l ≡ k = omega arith in
        subst (λ k. Positive (b ⊖ v k) × Positive (b ⊕ v k)) f
        (subst (λ z. Positive (b ⊖ z) × Positive (b ⊕ z)) (sym (Thomas.thomas_last A F sub diag sup rhs (suc l))) forward_last)
    backward (suc j) k e =
        let f : Positive (b ⊗ (w k ⊖ sup k) ⊖ w k ⊗ dp k) × Positive (b ⊗ (w k ⊖ sup k) ⊕ w k ⊗ dp k) = forward k (omega arith) in
        let g : Positive (b ⊖ v (suc k)) × Positive (b ⊕ v (suc k)) = backward j (suc k) (omega arith) in
        subst (λ z. Positive (b ⊖ z) × Positive (b ⊕ z)) (sym (Thomas.thomas_step A F sub diag sup rhs (suc l) k (omega arith))) (
          back_below b (w k) (sup k) (dp k) (v (suc k)) (positive k (omega arith)) (bounded.sup_positive k (omega arith)) f.0 g.1,
          back_above b (w k) (sup k) (dp k) (v (suc k)) (positive k (omega arith)) (bounded.sup_positive k (omega arith)) f.1 g.0,
        )

    -- every number of the result lies between -b and b
    pub thomas_bounded : (k : ℕ) → k ≤ suc l → Positive (b ⊖ v k) × Positive (b ⊕ v k)
    thomas_bounded k h = backward (suc l - k) k (omega arith)
