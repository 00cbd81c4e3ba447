-- The solve of rows: where no pivot is nought the result solves every row and nothing else does; where the rows are dominant each pivot is
-- positive.
use mathlib.Core.Path.{◌≡◌, refl, sym, ◌∙◌, ap, subst}
use mathlib.Core.List.{[], ◌∷◌}
use Prim.Native.Nat.{ℕ, zero, suc, ◌+◌, ◌-◌, ◌<◌, ◌≤◌}
use native.Mathlib.Decide.{dec_lt}
use native.Mathlib.Omega.{arith}
use Rattle.exact_arithmetic.specs.Arithmetic.{Arithmetic, IsField, IsOrdered}
use Rattle.exact_solver.specs.Expressions.{Term, var, t2, add, sub, mul, div}
use Rattle.exact_solver.proofs.Solver.{solve}
use Rattle.exact_spline.specs.Solve as Solve
use Rattle.exact_spline.specs.Rows.{Solves, Dominant}

module _ (A : Arithmetic) (F : IsField A) where
  infixl 60 ◌⊕◌
  infixl 60 ◌⊖◌
  infixl 70 ◌⊗◌
  infixl 70 ◌⊘◌
  open A use {Number, nought, one, two, six, plus as ◌⊕◌, minus as ◌⊖◌, times as ◌⊗◌, over as ◌⊘◌}

  first_row : (w r s v : Number) → ¬ (w ≡ nought) → w ⊗ (r ⊘ w ⊖ s ⊘ w ⊗ v) ⊕ s ⊗ v ≡ r
  first_row w r s v h =
      solve A F 1 (w ∷ r ∷ s ∷ v ∷ []) (h, tt)
      (add (mul (var 0) (sub (div (var 1) (var 0)) (mul (div (var 2) (var 0)) (var 3)))) (mul (var 2) (var 3)))
      (var 1) tt tt tt

  undo : (d a c : Number) → d ≡ d ⊖ a ⊗ c ⊕ a ⊗ c
  undo d a c = solve A F 0 (d ∷ a ∷ c ∷ []) tt (var 0) (add (sub (var 0) (mul (var 1) (var 2))) (mul (var 1) (var 2))) tt tt tt

  -- a row, where d is the diagonal, w the pivot, p the right side so far
  middle_row : (a d c p w r s v : Number) → w ≡ d ⊖ a ⊗ c → ¬ (w ≡ nought) →
      a ⊗ (p ⊖ c ⊗ ((r ⊖ a ⊗ p) ⊘ w ⊖ s ⊘ w ⊗ v)) ⊕ d ⊗ ((r ⊖ a ⊗ p) ⊘ w ⊖ s ⊘ w ⊗ v) ⊕ s ⊗ v ≡ r
  middle_row a d c p w r s v e h =
      ap (λ z. a ⊗ (p ⊖ c ⊗ ((r ⊖ a ⊗ p) ⊘ w ⊖ s ⊘ w ⊗ v)) ⊕ z ⊗ ((r ⊖ a ⊗ p) ⊘ w ⊖ s ⊘ w ⊗ v) ⊕ s ⊗ v)
      (undo d a c ∙ ap (λ z. z ⊕ a ⊗ c) (sym e))
      ∙ solve A F 1 (w ∷ a ∷ c ∷ p ∷ r ∷ s ∷ v ∷ []) (h, tt)
      (add (add (mul (var 1) (sub (var 3) (mul (var 2) next))) (mul (add (var 0) (mul (var 1) (var 2))) next)) (mul (var 5) (var 6)))
      (var 4) tt tt tt
    where
      next : Term
      next = sub (div (sub (var 4) (mul (var 1) (var 3))) (var 0)) (mul (div (var 5) (var 0)) (var 6))

  last_row : (a d c p w r : Number) → w ≡ d ⊖ a ⊗ c → ¬ (w ≡ nought) →
      a ⊗ (p ⊖ c ⊗ ((r ⊖ a ⊗ p) ⊘ w)) ⊕ d ⊗ ((r ⊖ a ⊗ p) ⊘ w) ≡ r
  last_row a d c p w r e h =
      ap (λ z. a ⊗ (p ⊖ c ⊗ ((r ⊖ a ⊗ p) ⊘ w)) ⊕ z ⊗ ((r ⊖ a ⊗ p) ⊘ w)) (undo d a c ∙ ap (λ z. z ⊕ a ⊗ c) (sym e))
      ∙ solve A F 1 (w ∷ a ∷ c ∷ p ∷ r ∷ []) (h, tt)
      (add (mul (var 1) (sub (var 3) (mul (var 2) next))) (mul (add (var 0) (mul (var 1) (var 2))) next))
      (var 4) tt tt tt
    where
      next : Term
      next = div (sub (var 4) (mul (var 1) (var 3))) (var 0)

  -- a row leaves no choice
  first_forced : (w r s a b : Number) → ¬ (w ≡ nought) → w ⊗ a ⊕ s ⊗ b ≡ r → a ≡ r ⊘ w ⊖ s ⊘ w ⊗ b
  first_forced w r s a b h e =
      solve A F 1 (w ∷ s ∷ a ∷ b ∷ []) (h, tt)
      (var 2)
      (sub (div (add (mul (var 0) (var 2)) (mul (var 1) (var 3))) (var 0)) (mul (div (var 1) (var 0)) (var 3)))
      tt tt tt
      ∙ ap (λ z. z ⊘ w ⊖ s ⊘ w ⊗ b) e

  middle_forced : (a d c p w r s v1 v2 : Number) → w ≡ d ⊖ a ⊗ c → ¬ (w ≡ nought) →
      a ⊗ (p ⊖ c ⊗ v1) ⊕ d ⊗ v1 ⊕ s ⊗ v2 ≡ r → v1 ≡ (r ⊖ a ⊗ p) ⊘ w ⊖ s ⊘ w ⊗ v2
  middle_forced a d c p w r s v1 v2 e h f =
      solve A F 1 (w ∷ a ∷ c ∷ p ∷ s ∷ v1 ∷ v2 ∷ []) (h, tt)
      (var 5)
      (sub (div
      (sub (add (add (mul (var 1) (sub (var 3) (mul (var 2) (var 5)))) (mul (add (var 0) (mul (var 1) (var 2))) (var 5)))
      (mul (var 4) (var 6))) (mul (var 1) (var 3))) (var 0))
      (mul (div (var 4) (var 0)) (var 6)))
      tt tt tt
      ∙ ap (λ z. (a ⊗ (p ⊖ c ⊗ v1) ⊕ z ⊗ v1 ⊕ s ⊗ v2 ⊖ a ⊗ p) ⊘ w ⊖ s ⊘ w ⊗ v2) (sym (undo d a c ∙ ap (λ z. z ⊕ a ⊗ c) (sym e)))
      ∙ ap (λ z. (z ⊖ a ⊗ p) ⊘ w ⊖ s ⊘ w ⊗ v2) f

  last_forced : (a d c p w r v1 : Number) → w ≡ d ⊖ a ⊗ c → ¬ (w ≡ nought) →
      a ⊗ (p ⊖ c ⊗ v1) ⊕ d ⊗ v1 ≡ r → v1 ≡ (r ⊖ a ⊗ p) ⊘ w
  last_forced a d c p w r v1 e h f =
      solve A F 1 (w ∷ a ∷ c ∷ p ∷ v1 ∷ []) (h, tt)
      (var 4)
      (div (sub (add (mul (var 1) (sub (var 3) (mul (var 2) (var 4)))) (mul (add (var 0) (mul (var 1) (var 2))) (var 4)))
      (mul (var 1) (var 3))) (var 0))
      tt tt tt
      ∙ ap (λ z. (a ⊗ (p ⊖ c ⊗ v1) ⊕ z ⊗ v1 ⊖ a ⊗ p) ⊘ w) (sym (undo d a c ∙ ap (λ z. z ⊕ a ⊗ c) (sym e)))
      ∙ ap (λ z. (z ⊖ a ⊗ p) ⊘ w) f

  module _ (sub diag sup rhs : ℕ → Number) where
    abbrev w : ℕ → Number
    w = Solve.w A sub diag sup rhs

    abbrev cp : ℕ → Number
    cp = Solve.cp A sub diag sup rhs

    abbrev dp : ℕ → Number
    dp = Solve.dp A sub diag sup rhs

    abbrev thomas : ℕ → ℕ → Number
    thomas = Solve.thomas A sub diag sup rhs

    -- the way back: each number from the one after it
    pub thomas_step : (l k : ℕ) → k < l → thomas l k ≡ dp k ⊖ cp k ⊗ thomas l (suc k)
    unfolding Solve.thomas Solve.before_last
    thomas_step l k h =
        let e : l - k ≡ suc (l - suc k) = omega arith in
        let f : l - suc (l - suc k) ≡ k = omega arith in
        ap (Solve.before_last A sub diag sup rhs l) e
        ∙ ap (λ j. dp j ⊖ cp j ⊗ Solve.before_last A sub diag sup rhs l (l - suc k)) f

    pub thomas_last : (l : ℕ) → thomas l l ≡ dp l
    unfolding Solve.thomas Solve.before_last
    thomas_last l = let e : l - l ≡ 0 = omega arith in ap (Solve.before_last A sub diag sup rhs l) e

    w_suc : (k : ℕ) → w (suc k) ≡ diag (suc k) ⊖ sub k ⊗ cp k
    unfolding Solve.w Solve.cp
    w_suc k = refl

    dp_suc : (k : ℕ) → dp (suc k) ≡ (rhs (suc k) ⊖ sub k ⊗ dp k) ⊘ w (suc k)
    unfolding Solve.dp
    dp_suc k = refl

    module _ (l : ℕ) (pivots : (k : ℕ) → k ≤ suc l → ¬ (w k ≡ nought)) where
      abbrev v : ℕ → Number
      v = thomas (suc l)

      first_of : diag 0 ⊗ v 0 ⊕ sup 0 ⊗ v 1 ≡ rhs 0
      unfolding Solve.w Solve.cp Solve.dp
      first_of =
          ap (λ z. diag 0 ⊗ z ⊕ sup 0 ⊗ v 1) (thomas_step (suc l) 0 (omega arith))
          ∙ first_row (diag 0) (rhs 0) (sup 0) (v 1) (pivots 0 (omega arith))

      middle_of : (k : ℕ) → k < l → sub k ⊗ v k ⊕ diag (suc k) ⊗ v (suc k) ⊕ sup (suc k) ⊗ v (suc (suc k)) ≡ rhs (suc k)
      unfolding Solve.cp
      middle_of k h =
          let e : v (suc k) ≡ (rhs (suc k) ⊖ sub k ⊗ dp k) ⊘ w (suc k) ⊖ sup (suc k) ⊘ w (suc k) ⊗ v (suc (suc k))
          = thomas_step (suc l) (suc k) (omega arith) ∙ ap (λ z. z ⊖ cp (suc k) ⊗ v (suc (suc k))) (dp_suc k) in
          ap (λ z. sub k ⊗ z ⊕ diag (suc k) ⊗ v (suc k) ⊕ sup (suc k) ⊗ v (suc (suc k))) (thomas_step (suc l) k (omega arith))
          ∙ ap (λ z. sub k ⊗ (dp k ⊖ cp k ⊗ z) ⊕ diag (suc k) ⊗ z ⊕ sup (suc k) ⊗ v (suc (suc k))) e
          ∙ middle_row (sub k) (diag (suc k)) (cp k) (dp k) (w (suc k)) (rhs (suc k)) (sup (suc k)) (v (suc (suc k))) (w_suc k)
          (pivots (suc k) (omega arith))

      last_of : sub l ⊗ v l ⊕ diag (suc l) ⊗ v (suc l) ≡ rhs (suc l)
      last_of =
          let e : v (suc l) ≡ (rhs (suc l) ⊖ sub l ⊗ dp l) ⊘ w (suc l) = thomas_last (suc l) ∙ dp_suc l in
          ap (λ z. sub l ⊗ z ⊕ diag (suc l) ⊗ v (suc l)) (thomas_step (suc l) l (omega arith))
          ∙ ap (λ z. sub l ⊗ (dp l ⊖ cp l ⊗ z) ⊕ diag (suc l) ⊗ z) e
          ∙ last_row (sub l) (diag (suc l)) (cp l) (dp l) (w (suc l)) (rhs (suc l)) (w_suc l) (pivots (suc l) (omega arith))

      -- where no pivot is nought, the result satisfies every row
      pub thomas_solves : Solves A sub diag sup rhs l v
      thomas_solves = record { first = first_of; middle = middle_of; last = last_of }

      -- and nothing else does
      module _ (t : ℕ → Number) (solved : Solves A sub diag sup rhs l t) where
        forward : (k : ℕ) → k ≤ l → t k ≡ dp k ⊖ cp k ⊗ t (suc k)
        unfolding Solve.w Solve.cp Solve.dp
        forward zero h = first_forced (diag 0) (rhs 0) (sup 0) (t 0) (t 1) (pivots 0 (omega arith)) solved.first
        forward (suc k) h =
            middle_forced (sub k) (diag (suc k)) (cp k) (dp k) (w (suc k)) (rhs (suc k)) (sup (suc k)) (t (suc k)) (t (suc (suc k)))
            (w_suc k)
            (pivots (suc k) (omega arith))
            (ap (λ z. sub k ⊗ z ⊕ diag (suc k) ⊗ t (suc k) ⊕ sup (suc k) ⊗ t (suc (suc k)))
            (sym (forward k (omega arith))) ∙ solved.middle k h)

        forward_last : t (suc l) ≡ dp (suc l)
        forward_last =
            last_forced (sub l) (diag (suc l)) (cp l) (dp l) (w (suc l)) (rhs (suc l)) (t (suc l)) (w_suc l) (pivots (suc l) (omega arith))
            (ap (λ z. sub l ⊗ z ⊕ diag (suc l) ⊗ t (suc l)) (sym (forward l (omega arith))) ∙ solved.last)
            ∙ sym (dp_suc l)

        backward : (j k : ℕ) → k + j ≡ suc l → t k ≡ v k
        backward zero k e =
            let f : k ≡ suc l = omega arith in
            ap t f ∙ forward_last ∙ sym (thomas_last (suc l)) ∙ ap v (sym f)
        backward (suc j) k e =
            forward k (omega arith)
            ∙ ap (λ z. dp k ⊖ cp k ⊗ z) (backward j (suc k) (omega arith))
            ∙ sym (thomas_step (suc l) k (omega arith))

        pub thomas_only : (k : ℕ) → k ≤ suc l → t k ≡ v k
        thomas_only k h = backward (suc l - k) k (omega arith)

  module _ (O : IsOrdered A) where
    open O use {Positive, positive_one, positive_plus, positive_times, positive_over, positive_not_nought}

    positive_two : Positive two
    positive_two = subst Positive (sym F.two_is) (positive_plus one one positive_one positive_one)

    minus_late : (d s a : Number) → d ⊖ s ⊖ a ≡ d ⊖ a ⊖ s
    minus_late d s a = solve A F 0 (d ∷ s ∷ a ∷ []) tt (sub (sub (var 0) (var 1)) (var 2)) (sub (sub (var 0) (var 2)) (var 1)) tt tt tt

    plus_late : (d s a : Number) → d ⊕ s ⊖ a ≡ d ⊖ a ⊕ s
    plus_late d s a = solve A F 0 (d ∷ s ∷ a ∷ []) tt (sub (add (var 0) (var 1)) (var 2)) (add (sub (var 0) (var 2)) (var 1)) tt tt tt

    -- a pivot: d is greater than a, and w greater than s, whatever their signs
    pivot : (d a s w : Number) → Positive w → Positive (d ⊖ a) → Positive (d ⊕ a) → Positive (w ⊖ s) → Positive (w ⊕ s)
        → Positive (d ⊖ a ⊗ (s ⊘ w))
    pivot d a s w p q r i j =
        subst Positive
        (solve A F 1 (w ∷ d ∷ a ∷ s ∷ []) (positive_not_nought w p, tt)
        (div (add (mul (sub (var 1) (var 2)) (add (var 0) (var 3))) (mul (add (var 1) (var 2)) (sub (var 0) (var 3)))) (mul t2 (var 0)))
        (sub (var 1) (mul (var 2) (div (var 3) (var 0))))
        tt tt tt)
        (positive_over _ _
        (positive_plus _ _ (positive_times _ _ q j) (positive_times _ _ r i))
        (positive_times _ _ positive_two p))

    -- half of what lies between the two
    between : (w s : Number) → Positive (w ⊖ s) → Positive (w ⊕ s) → Positive w
    between w s p q =
        subst Positive
        (solve A F 0 (w ∷ s ∷ []) tt (div (add (sub (var 0) (var 1)) (add (var 0) (var 1))) t2) (var 0) tt tt tt)
        (positive_over _ _ (positive_plus _ _ p q) positive_two)

    module _ (sub diag sup rhs : ℕ → Number) (l : ℕ) (dominant : Dominant A sub diag sup O l) where
      abbrev pv : ℕ → Number
      pv = Solve.w A sub diag sup rhs

      below : (k : ℕ) → k ≤ l → Positive (pv k ⊖ sup k) × Positive (pv k ⊕ sup k)
      unfolding Solve.w
      below zero h = (dominant.first_minus, dominant.first_plus)
      below (suc k) h =
          let b : Positive (pv k ⊖ sup k) × Positive (pv k ⊕ sup k) = below k (omega arith) in
          let p : Positive (pv k) = between (pv k) (sup k) b.0 b.1 in (
            subst Positive (minus_late (diag (suc k)) (sup (suc k)) (sub k ⊗ (sup k ⊘ pv k)))
                (pivot (diag (suc k) ⊖ sup (suc k)) (sub k) (sup k) (pv k) p (dominant.middle_minus_minus k h)
                (dominant.middle_minus_plus k h) b.0 b.1),
            subst Positive (plus_late (diag (suc k)) (sup (suc k)) (sub k ⊗ (sup k ⊘ pv k)))
                (pivot (diag (suc k) ⊕ sup (suc k)) (sub k) (sup k) (pv k) p (dominant.middle_plus_minus k h)
                (dominant.middle_plus_plus k h) b.0 b.1),
          )

      -- every pivot is positive
      pub pivots_positive : (k : ℕ) → k ≤ suc l → Positive (pv k)
      unfolding Solve.w
      pivots_positive zero h = between (diag 0) (sup 0) dominant.first_minus dominant.first_plus
      pivots_positive (suc k) h = go (dec_lt k l)
        where
          go : Dec (k < l) → Positive (pv (suc k))
          go (yes i) = between (pv (suc k)) (sup (suc k)) (below (suc k) i).0 (below (suc k) i).1
          go (no i) =
              let e : l ≡ k = omega arith in
              let b : Positive (pv k ⊖ sup k) × Positive (pv k ⊕ sup k) = below k (omega arith) in
              pivot (diag (suc k)) (sub k) (sup k) (pv k)
              (between (pv k) (sup k) b.0 b.1)
              (subst (λ j. Positive (diag (suc j) ⊖ sub j)) e dominant.last_minus)
              (subst (λ j. Positive (diag (suc j) ⊕ sub j)) e dominant.last_plus)
              b.0 b.1
