-- Two ends on rising knots: the rows are dominant, so the moments solve them, and their curve is a spline whose ends do what they say.
use mathlib.Core.Path.{◌≡◌, refl, sym, ◌∙◌, ap, ap₂, subst}
use mathlib.Core.List.{[], ◌∷◌}
use Prim.Native.Nat.{ℕ, suc, ◌+◌, ◌-◌, ◌<◌, ◌≤◌}
use native.Mathlib.Decide.{dec_lt, ℕ_discrete}
use native.Mathlib.Omega.{arith}
use lib.Dec.{eqb}
use borrow.Author.Tests.{eq-eqb, ne_eqb}
use Rattle.exact_arithmetic.specs.Arithmetic.{Arithmetic, IsField, IsOrdered}
use Rattle.exact_solver.specs.Expressions.{var, t0, t1, t2, t3, t6, add, sub, mul, div, terms}
use Rattle.exact_solver.proofs.Solver.{solve}
use Rattle.exact_spline.specs.Steps as Steps
use Rattle.exact_spline.specs.Solve as Solve
use Rattle.exact_spline.specs.Rows.{Solves, Dominant}
use Rattle.exact_spline.specs.Moments as Moments
use Rattle.exact_spline.specs.Ends.{End, NotAKnot, FirstDerivative, SecondDerivative, Endpoints, dropped}
use Rattle.exact_spline.specs.Curve.{lower_slope, upper_slope}
use Rattle.exact_spline.specs.Derivatives.{slope_in_cell, second_in_cell, third_in_cell, twist}
use Rattle.exact_spline.specs.Spline.{IsSpline, LowerEnd, UpperEnd}
use Rattle.exact_spline.proofs.Thomas as Thomas
use Rattle.exact_spline.proofs.Knots as Knots
use Rattle.exact_spline.proofs.Tests.{cond_true, cond_false}

module _ (A : Arithmetic) (F : IsField A) (O : IsOrdered A) where
  infixl 60 ◌⊕◌
  infixl 60 ◌⊖◌
  infixl 70 ◌⊗◌
  infixl 70 ◌⊘◌
  open A use {Number, nought, one, two, three, six, plus as ◌⊕◌, minus as ◌⊖◌, times as ◌⊗◌, over as ◌⊘◌}
  open O use {Positive, positive_one, positive_plus, positive_times, positive_over, positive_not_nought}

  pub positive_two : Positive two
  positive_two = subst Positive (sym F.two_is) (positive_plus one one positive_one positive_one)

  pub positive_three : Positive three
  positive_three = subst Positive (sym F.three_is) (positive_plus two one positive_two positive_one)

  -- sums of two steps
  module _ (a b : Number) (p : Positive a) (q : Positive b) where
    pub minus_minus : Positive (two ⊗ (a ⊕ b) ⊖ b ⊖ a)
    minus_minus =
        subst Positive
        (solve A F 0 (a ∷ b ∷ []) tt (add (var 0) (var 1)) (sub (sub (mul t2 (add (var 0) (var 1))) (var 1)) (var 0)) tt tt tt)
        (positive_plus a b p q)

    pub minus_plus : Positive (two ⊗ (a ⊕ b) ⊖ b ⊕ a)
    minus_plus =
        subst Positive
        (solve A F 0 (a ∷ b ∷ []) tt (add (mul t3 (var 0)) (var 1)) (add (sub (mul t2 (add (var 0) (var 1))) (var 1)) (var 0)) tt tt tt)
        (positive_plus _ _ (positive_times _ _ positive_three p) q)

    pub plus_minus : Positive (two ⊗ (a ⊕ b) ⊕ b ⊖ a)
    plus_minus =
        subst Positive
        (solve A F 0 (a ∷ b ∷ []) tt (add (var 0) (mul t3 (var 1))) (sub (add (mul t2 (add (var 0) (var 1))) (var 1)) (var 0)) tt tt tt)
        (positive_plus _ _ p (positive_times _ _ positive_three q))

    pub plus_plus : Positive (two ⊗ (a ⊕ b) ⊕ b ⊕ a)
    plus_plus =
        subst Positive
        (solve A F 0 (a ∷ b ∷ []) tt (mul t3 (add (var 0) (var 1))) (add (add (mul t2 (add (var 0) (var 1))) (var 1)) (var 0)) tt tt tt)
        (positive_times _ _ positive_three (positive_plus a b p q))

    -- what a NotAKnot end's row has: at the lower end a is the first step, at the upper end b is the last
    lower_minus : Positive ((a ⊕ b) ⊗ (a ⊕ two ⊗ b) ⊖ (b ⊗ b ⊖ a ⊗ a))
    lower_minus =
        subst Positive
        (solve A F 0 (a ∷ b ∷ []) tt (mul (add (var 0) (var 1)) (add (mul t2 (var 0)) (var 1)))
        (sub (mul (add (var 0) (var 1)) (add (var 0) (mul t2 (var 1)))) (sub (mul (var 1) (var 1)) (mul (var 0) (var 0)))) tt tt tt)
        (positive_times _ _ (positive_plus a b p q) (positive_plus _ _ (positive_times _ _ positive_two p) q))

    lower_plus : Positive ((a ⊕ b) ⊗ (a ⊕ two ⊗ b) ⊕ (b ⊗ b ⊖ a ⊗ a))
    lower_plus =
        subst Positive
        (solve A F 0 (a ∷ b ∷ []) tt (mul (add (var 0) (var 1)) (mul t3 (var 1)))
        (add (mul (add (var 0) (var 1)) (add (var 0) (mul t2 (var 1)))) (sub (mul (var 1) (var 1)) (mul (var 0) (var 0)))) tt tt tt)
        (positive_times _ _ (positive_plus a b p q) (positive_times _ _ positive_three q))

    upper_minus : Positive ((a ⊕ b) ⊗ (two ⊗ a ⊕ b) ⊖ (a ⊗ a ⊖ b ⊗ b))
    upper_minus =
        subst Positive
        (solve A F 0 (a ∷ b ∷ []) tt (mul (add (var 0) (var 1)) (add (var 0) (mul t2 (var 1))))
        (sub (mul (add (var 0) (var 1)) (add (mul t2 (var 0)) (var 1))) (sub (mul (var 0) (var 0)) (mul (var 1) (var 1)))) tt tt tt)
        (positive_times _ _ (positive_plus a b p q) (positive_plus _ _ p (positive_times _ _ positive_two q)))

    upper_plus : Positive ((a ⊕ b) ⊗ (two ⊗ a ⊕ b) ⊕ (a ⊗ a ⊖ b ⊗ b))
    upper_plus =
        subst Positive
        (solve A F 0 (a ∷ b ∷ []) tt (mul (add (var 0) (var 1)) (mul t3 (var 0)))
        (add (mul (add (var 0) (var 1)) (add (mul t2 (var 0)) (var 1))) (sub (mul (var 0) (var 0)) (mul (var 1) (var 1)))) tt tt tt)
        (positive_times _ _ (positive_plus a b p q) (positive_times _ _ positive_three p))

  single_minus : (a : Number) → Positive a → Positive (two ⊗ a ⊖ a)
  single_minus a p = subst Positive (solve A F 0 (a ∷ []) tt (var 0) (sub (mul t2 (var 0)) (var 0)) tt tt tt) p

  single_plus : (a : Number) → Positive a → Positive (two ⊗ a ⊕ a)
  single_plus a p =
      subst Positive (solve A F 0 (a ∷ []) tt (mul t3 (var 0)) (add (mul t2 (var 0)) (var 0)) tt tt tt)
      (positive_times _ _ positive_three p)

  one_minus : Positive (one ⊖ nought)
  one_minus = subst Positive (solve A F 0 [] tt t1 (sub t1 t0) tt tt tt) positive_one

  one_plus : Positive (one ⊕ nought)
  one_plus = subst Positive (solve A F 0 [] tt t1 (add t1 t0) tt tt tt) positive_one

  module _ (x y : ℕ → Number) (n : ℕ) (rising : (i : ℕ) → i < n → Positive (Steps.h A x i)) where
    abbrev h : ℕ → Number
    h = Steps.h A x

    abbrev s : ℕ → Number
    s = Steps.s A x y

    abbrev u : ℕ → Number
    u = Steps.u A x y

    lower_row_minus : (e : End Number) → dropped e < n
        → Positive ((Moments.lower_row A x y n e).diagonal ⊖ (Moments.lower_row A x y n e).neighbour)
    unfolding Moments.lower_row
    lower_row_minus NotAKnot k = lower_minus (h 0) (h 1) (rising 0 (omega arith)) (rising 1 k)
    lower_row_minus (FirstDerivative v) k = single_minus (h 0) (rising 0 k)
    lower_row_minus (SecondDerivative v) k = one_minus

    lower_row_plus : (e : End Number) → dropped e < n
        → Positive ((Moments.lower_row A x y n e).diagonal ⊕ (Moments.lower_row A x y n e).neighbour)
    unfolding Moments.lower_row
    lower_row_plus NotAKnot k = lower_plus (h 0) (h 1) (rising 0 (omega arith)) (rising 1 k)
    lower_row_plus (FirstDerivative v) k = single_plus (h 0) (rising 0 k)
    lower_row_plus (SecondDerivative v) k = one_plus

    upper_row_minus : (e : End Number) → dropped e < n
        → Positive ((Moments.upper_row A x y n e).diagonal ⊖ (Moments.upper_row A x y n e).neighbour)
    unfolding Moments.upper_row
    upper_row_minus NotAKnot k = upper_minus (h (n - 2)) (h (n - 1)) (rising (n - 2) (omega arith)) (rising (n - 1) (omega arith))
    upper_row_minus (FirstDerivative v) k = single_minus (h (n - 1)) (rising (n - 1) (omega arith))
    upper_row_minus (SecondDerivative v) k = one_minus

    upper_row_plus : (e : End Number) → dropped e < n
        → Positive ((Moments.upper_row A x y n e).diagonal ⊕ (Moments.upper_row A x y n e).neighbour)
    unfolding Moments.upper_row
    upper_row_plus NotAKnot k = upper_plus (h (n - 2)) (h (n - 1)) (rising (n - 2) (omega arith)) (rising (n - 1) (omega arith))
    upper_row_plus (FirstDerivative v) k = single_plus (h (n - 1)) (rising (n - 1) (omega arith))
    upper_row_plus (SecondDerivative v) k = one_plus

    module _ (lower upper : End Number) (enough : dropped lower + dropped upper < n) where
      abbrev last : ℕ
      last = n - dropped lower - dropped upper

      abbrev sub' : ℕ → Number
      sub' = Moments.sub A x y n lower upper

      abbrev diag : ℕ → Number
      diag = Moments.diag A x y n lower upper

      abbrev sup : ℕ → Number
      sup = Moments.sup A x y n lower upper

      abbrev rhs : ℕ → Number
      rhs = Moments.rhs A x y n lower upper

      abbrev inner : ℕ → Number
      inner = Moments.inner A x y n lower upper

      -- the row before the last
      abbrev l : ℕ
      l = last - 1

      pub last_is : last ≡ suc l
      last_is = omega arith

      -- the rows by their places
      pub sub_middle : (j : ℕ) → j < l → sub' j ≡ h (dropped lower + j)
      unfolding Moments.sub
      sub_middle j k = cond_false (eqb (j + 1) last) _ _ (ne_eqb (j + 1) last (λ e. omega arith))

      pub sub_last : sub' l ≡ (Moments.upper_row A x y n upper).neighbour
      unfolding Moments.sub
      sub_last = cond_true (eqb (l + 1) last) _ _ (eq-eqb (l + 1) last (omega arith))

      pub diag_first : diag 0 ≡ (Moments.lower_row A x y n lower).diagonal
      unfolding Moments.diag
      diag_first = refl

      pub diag_middle : (j : ℕ) → j < l → diag (suc j) ≡ two ⊗ (h (dropped lower + j) ⊕ h (dropped lower + j + 1))
      unfolding Moments.diag
      diag_middle j k =
          cond_false (eqb (suc j) 0) _ _ (ne_eqb (suc j) 0 (λ e. omega arith))
          ∙ cond_false (eqb (suc j) last) _ _ (ne_eqb (suc j) last (λ e. omega arith))
          ∙ ap₂ (λ p q. two ⊗ (h p ⊕ h q)) (omega arith) (omega arith)

      pub diag_last : diag (suc l) ≡ (Moments.upper_row A x y n upper).diagonal
      unfolding Moments.diag
      diag_last =
          cond_false (eqb (suc l) 0) _ _ (ne_eqb (suc l) 0 (λ e. omega arith))
          ∙ cond_true (eqb (suc l) last) _ _ (eq-eqb (suc l) last (omega arith))

      pub sup_first : sup 0 ≡ (Moments.lower_row A x y n lower).neighbour
      unfolding Moments.sup
      sup_first = refl

      pub sup_middle : (j : ℕ) → sup (suc j) ≡ h (dropped lower + j + 1)
      unfolding Moments.sup
      sup_middle j = cond_false (eqb (suc j) 0) _ _ (ne_eqb (suc j) 0 (λ e. omega arith)) ∙ ap h (omega arith)

      pub rhs_first : rhs 0 ≡ (Moments.lower_row A x y n lower).right
      unfolding Moments.rhs
      rhs_first = refl

      pub rhs_middle : (j : ℕ) → j < l → rhs (suc j) ≡ u (dropped lower + j)
      unfolding Moments.rhs
      rhs_middle j k =
          cond_false (eqb (suc j) 0) _ _ (ne_eqb (suc j) 0 (λ e. omega arith))
          ∙ cond_false (eqb (suc j) last) _ _ (ne_eqb (suc j) last (λ e. omega arith))
          ∙ ap u (omega arith)

      pub rhs_last : rhs (suc l) ≡ (Moments.upper_row A x y n upper).right
      unfolding Moments.rhs
      rhs_last =
          cond_false (eqb (suc l) 0) _ _ (ne_eqb (suc l) 0 (λ e. omega arith))
          ∙ cond_true (eqb (suc l) last) _ _ (eq-eqb (suc l) last (omega arith))

      dominant : Dominant A sub' diag sup O l
      dominant =
          record {
            first_minus = subst Positive (sym (ap₂ ◌⊖◌ diag_first sup_first)) (lower_row_minus lower (omega arith));
            first_plus = subst Positive (sym (ap₂ ◌⊕◌ diag_first sup_first)) (lower_row_plus lower (omega arith));
            middle_minus_minus =
                λ j k.
                subst Positive (sym (ap₂ ◌⊖◌ (ap₂ ◌⊖◌ (diag_middle j k) (sup_middle j)) (sub_middle j k)))
                (minus_minus (h (dropped lower + j)) (h (dropped lower + j + 1)) (rising _ (omega arith)) (rising _ (omega arith)));
            middle_minus_plus =
                λ j k.
                subst Positive (sym (ap₂ ◌⊕◌ (ap₂ ◌⊖◌ (diag_middle j k) (sup_middle j)) (sub_middle j k)))
                (minus_plus (h (dropped lower + j)) (h (dropped lower + j + 1)) (rising _ (omega arith)) (rising _ (omega arith)));
            middle_plus_minus =
                λ j k.
                subst Positive (sym (ap₂ ◌⊖◌ (ap₂ ◌⊕◌ (diag_middle j k) (sup_middle j)) (sub_middle j k)))
                (plus_minus (h (dropped lower + j)) (h (dropped lower + j + 1)) (rising _ (omega arith)) (rising _ (omega arith)));
            middle_plus_plus =
                λ j k.
                subst Positive (sym (ap₂ ◌⊕◌ (ap₂ ◌⊕◌ (diag_middle j k) (sup_middle j)) (sub_middle j k)))
                (plus_plus (h (dropped lower + j)) (h (dropped lower + j + 1)) (rising _ (omega arith)) (rising _ (omega arith)));
            last_minus = subst Positive (sym (ap₂ ◌⊖◌ diag_last sub_last)) (upper_row_minus upper (omega arith));
            last_plus = subst Positive (sym (ap₂ ◌⊕◌ diag_last sub_last)) (upper_row_plus upper (omega arith));
          }

      pub pivots : (k : ℕ) → k ≤ suc l → ¬ (Solve.w A sub' diag sup rhs k ≡ nought)
      pivots k b = positive_not_nought _ (Thomas.pivots_positive A F O sub' diag sup rhs l dominant k b)

      -- the moments of the rows satisfy them
      pub inner_solves : Solves A sub' diag sup rhs l inner
      unfolding Moments.inner
      inner_solves =
          subst (λ a. Solves A sub' diag sup rhs l (Solve.thomas A sub' diag sup rhs a)) (sym last_is)
          (Thomas.thomas_solves A F sub' diag sup rhs l pivots)

      -- the moments at the knots
      abbrev m : ℕ → Number
      m = Moments.moment A x y n (Endpoints lower upper)

      first_is : dropped lower ≡ 0 → Moments.first_moment A x y n lower upper ≡ inner 0
      unfolding Moments.first_moment
      first_is = go lower
        where
          go : (e : End Number) → dropped e ≡ 0 → Moments.first_moment A x y n e upper ≡ Moments.inner A x y n e upper 0
          go NotAKnot z = let f : ⊥ = omega arith in absurd f
          go (FirstDerivative v) z = refl
          go (SecondDerivative v) z = refl

      final_is : dropped upper ≡ 0 → Moments.last_moment A x y n lower upper ≡ inner last
      unfolding Moments.last_moment
      final_is = go upper
        where
          go : (e : End Number) → dropped e ≡ 0
              → Moments.last_moment A x y n lower e ≡ Moments.inner A x y n lower e (n - dropped lower - dropped e)
          go NotAKnot z = let f : ⊥ = omega arith in absurd f
          go (FirstDerivative v) z = refl
          go (SecondDerivative v) z = refl

      -- the moment at a knot that no end dropped is that of its row
      pub moment_is : (k : ℕ) → dropped lower ≤ k → k + dropped upper ≤ n → m k ≡ inner (k - dropped lower)
      unfolding Moments.moment
      moment_is k p q = go (ℕ_discrete k 0) (ℕ_discrete k n)
        where
          go : Dec (k ≡ 0) → Dec (k ≡ n) → m k ≡ inner (k - dropped lower)
          go (yes e) f =
              cond_true (eqb k 0) _ _ (eq-eqb k 0 e) ∙ first_is (omega arith) ∙ ap inner (omega arith)
          go (no e) (yes f) =
              cond_false (eqb k 0) _ _ (ne_eqb k 0 e) ∙ cond_true (eqb k n) _ _ (eq-eqb k n f) ∙ final_is (omega arith)
              ∙ ap inner (omega arith)
          go (no e) (no f) =
              cond_false (eqb k 0) _ _ (ne_eqb k 0 e) ∙ cond_false (eqb k n) _ _ (ne_eqb k n f)

      moment_first : m 0 ≡ Moments.first_moment A x y n lower upper
      unfolding Moments.moment
      moment_first = refl

      moment_last : m n ≡ Moments.last_moment A x y n lower upper
      unfolding Moments.moment
      moment_last = cond_false (eqb n 0) _ _ (ne_eqb n 0 (λ e. omega arith)) ∙ cond_true (eqb n n) _ _ (eq-eqb n n refl)

      -- the rows at their knots
      pub first_row : (Moments.lower_row A x y n lower).diagonal ⊗ m (dropped lower) ⊕ (Moments.lower_row A x y n lower).neighbour ⊗ m
          (dropped lower + 1)
          ≡ (Moments.lower_row A x y n lower).right
      first_row =
          ap₂ ◌⊕◌
          (ap₂ ◌⊗◌ (sym diag_first) (moment_is (dropped lower) (omega arith) (omega arith) ∙ ap inner (omega arith)))
          (ap₂ ◌⊗◌ (sym sup_first) (moment_is (dropped lower + 1) (omega arith) (omega arith) ∙ ap inner (omega arith)))
          ∙ inner_solves.first
          ∙ rhs_first

      pub last_row : (Moments.upper_row A x y n upper).neighbour ⊗ m (n - dropped upper - 1) ⊕ (Moments.upper_row A x y n upper).diagonal ⊗ m
          (n - dropped upper)
          ≡ (Moments.upper_row A x y n upper).right
      last_row =
          ap₂ ◌⊕◌
          (ap₂ ◌⊗◌ (sym sub_last) (moment_is (n - dropped upper - 1) (omega arith) (omega arith) ∙ ap inner (omega arith)))
          (ap₂ ◌⊗◌ (sym diag_last) (moment_is (n - dropped upper) (omega arith) (omega arith) ∙ ap inner (omega arith)))
          ∙ inner_solves.last
          ∙ rhs_last

      -- the same with the knots by other names
      last_row_at : (p q : ℕ) → p ≡ n - dropped upper - 1 → q ≡ n - dropped upper
          → (Moments.upper_row A x y n upper).neighbour ⊗ m p ⊕ (Moments.upper_row A x y n upper).diagonal ⊗ m q
          ≡ (Moments.upper_row A x y n upper).right
      last_row_at p q e f =
          ap₂ (λ p q. (Moments.upper_row A x y n upper).neighbour ⊗ m p ⊕ (Moments.upper_row A x y n upper).diagonal ⊗ m q) e f ∙ last_row

      pub middle_row : (k : ℕ) → dropped lower ≤ k → k + 1 + dropped upper < n → Knots.Interior A F x y m k
      middle_row k p q =
          let j : ℕ = k - dropped lower in
          let b : j < l = omega arith in
          let e : dropped lower + j ≡ k = omega arith in
          ap₂ ◌⊕◌
          (ap₂ ◌⊕◌
          (ap₂ ◌⊗◌ (ap h (sym e) ∙ sym (sub_middle j b)) (moment_is k (omega arith) (omega arith)))
          (ap₂ ◌⊗◌ (ap (λ i. two ⊗ (h i ⊕ h (i + 1))) (sym e) ∙ sym (diag_middle j b))
          (moment_is (k + 1) (omega arith) (omega arith) ∙ ap inner (omega arith))))
          (ap₂ ◌⊗◌ (ap (λ i. h (i + 1)) (sym e) ∙ sym (sup_middle j))
          (moment_is (k + 1 + 1) (omega arith) (omega arith) ∙ ap inner (omega arith)))
          ∙ inner_solves.middle j b
          ∙ rhs_middle j b
          ∙ ap u e

  -- an end that dropped its moment: a and b are the first two steps, p and q the moments at knots 1 and 2
  module _ (a b p q r : Number) (wide : ¬ (b ≡ nought)) where
    lower_drop : (a ⊕ b) ⊗ (a ⊕ two ⊗ b) ⊗ p ⊕ (b ⊗ b ⊖ a ⊗ a) ⊗ q ≡ b ⊗ r
        → a ⊗ (((a ⊕ b) ⊗ p ⊖ a ⊗ q) ⊘ b) ⊕ two ⊗ (a ⊕ b) ⊗ p ⊕ b ⊗ q ≡ r
    lower_drop e =
        solve A F 1 (b ∷ a ∷ p ∷ q ∷ []) (wide, tt)
        (add (add (mul (var 1) (div (sub (mul (add (var 1) (var 0)) (var 2)) (mul (var 1) (var 3))) (var 0)))
        (mul (mul t2 (add (var 1) (var 0))) (var 2))) (mul (var 0) (var 3)))
        (div (add (mul (mul (add (var 1) (var 0)) (add (var 1) (mul t2 (var 0)))) (var 2))
        (mul (sub (mul (var 0) (var 0)) (mul (var 1) (var 1))) (var 3))) (var 0))
        tt tt tt
        ∙ ap (λ z. z ⊘ b) e
        ∙ solve A F 1 (b ∷ r ∷ []) (wide, tt) (div (mul (var 0) (var 1)) (var 0)) (var 1) tt tt tt

    lower_third : ¬ (a ≡ nought) → twist A a (((a ⊕ b) ⊗ p ⊖ a ⊗ q) ⊘ b) p ≡ twist A b p q
    lower_third k =
        solve A F 2 (b ∷ a ∷ p ∷ q ∷ []) (wide, (k, tt))
        (twist terms (var 1) (div (sub (mul (add (var 1) (var 0)) (var 2)) (mul (var 1) (var 3))) (var 0)) (var 2))
        (twist terms (var 0) (var 2) (var 3))
        tt tt tt

  -- at the upper end a and b are the last two steps, p and q the moments at knots n - 2 and n - 1
  module _ (a b p q r : Number) (wide : ¬ (a ≡ nought)) where
    upper_drop : (a ⊗ a ⊖ b ⊗ b) ⊗ p ⊕ (a ⊕ b) ⊗ (two ⊗ a ⊕ b) ⊗ q ≡ a ⊗ r
        → a ⊗ p ⊕ two ⊗ (a ⊕ b) ⊗ q ⊕ b ⊗ (((a ⊕ b) ⊗ q ⊖ b ⊗ p) ⊘ a) ≡ r
    upper_drop e =
        solve A F 1 (a ∷ b ∷ p ∷ q ∷ []) (wide, tt)
        (add (add (mul (var 0) (var 2)) (mul (mul t2 (add (var 0) (var 1))) (var 3)))
        (mul (var 1) (div (sub (mul (add (var 0) (var 1)) (var 3)) (mul (var 1) (var 2))) (var 0))))
        (div (add (mul (sub (mul (var 0) (var 0)) (mul (var 1) (var 1))) (var 2))
        (mul (mul (add (var 0) (var 1)) (add (mul t2 (var 0)) (var 1))) (var 3))) (var 0))
        tt tt tt
        ∙ ap (λ z. z ⊘ a) e
        ∙ solve A F 1 (a ∷ r ∷ []) (wide, tt) (div (mul (var 0) (var 1)) (var 0)) (var 1) tt tt tt

    upper_third : ¬ (b ≡ nought) → twist A a p q ≡ twist A b q (((a ⊕ b) ⊗ q ⊖ b ⊗ p) ⊘ a)
    upper_third k =
        solve A F 2 (a ∷ b ∷ p ∷ q ∷ []) (wide, (k, tt))
        (twist terms (var 0) (var 2) (var 3))
        (twist terms (var 1) (var 3) (div (sub (mul (add (var 0) (var 1)) (var 3)) (mul (var 1) (var 2))) (var 0)))
        tt tt tt

  lower_clamp : (a t p q v : Number) → two ⊗ a ⊗ p ⊕ a ⊗ q ≡ six ⊗ (t ⊖ v) → lower_slope A a t p q ≡ v
  lower_clamp a t p q v e =
      solve A F 0 (a ∷ t ∷ p ∷ q ∷ []) tt
      (lower_slope terms (var 0) (var 1) (var 2) (var 3))
      (sub (var 1) (div (add (mul (mul t2 (var 0)) (var 2)) (mul (var 0) (var 3))) t6)) tt tt tt
      ∙ ap (λ z. t ⊖ z ⊘ six) e
      ∙ solve A F 0 (t ∷ v ∷ []) tt (sub (var 0) (div (mul t6 (sub (var 0) (var 1))) t6)) (var 1) tt tt tt

  upper_clamp : (a t p q v : Number) → a ⊗ p ⊕ two ⊗ a ⊗ q ≡ six ⊗ (v ⊖ t) → upper_slope A a t p q ≡ v
  upper_clamp a t p q v e =
      solve A F 0 (a ∷ t ∷ p ∷ q ∷ []) tt
      (upper_slope terms (var 0) (var 1) (var 2) (var 3))
      (add (var 1) (div (add (mul (var 0) (var 2)) (mul (mul t2 (var 0)) (var 3))) t6)) tt tt tt
      ∙ ap (λ z. t ⊕ z ⊘ six) e
      ∙ solve A F 0 (t ∷ v ∷ []) tt (add (var 0) (div (mul t6 (sub (var 1) (var 0))) t6)) (var 1) tt tt tt

  lower_alone : (p q v : Number) → one ⊗ p ⊕ nought ⊗ q ≡ v → p ≡ v
  lower_alone p q v e = solve A F 0 (p ∷ q ∷ []) tt (var 0) (add (mul t1 (var 0)) (mul t0 (var 1))) tt tt tt ∙ e

  upper_alone : (p q v : Number) → nought ⊗ p ⊕ one ⊗ q ≡ v → q ≡ v
  upper_alone p q v e = solve A F 0 (p ∷ q ∷ []) tt (var 1) (add (mul t0 (var 0)) (mul t1 (var 1))) tt tt tt ∙ e

  module _ (x y : ℕ → Number) (n : ℕ) (rising : (i : ℕ) → i < n → Positive (Steps.h A x i)) where
    wide : (i : ℕ) → i < n → ¬ (Steps.h A x i ≡ nought)
    wide i b = positive_not_nought _ (rising i b)

    abbrev moments : End Number → End Number → ℕ → Number
    moments lower upper = Moments.moment A x y n (Endpoints lower upper)

    -- a dropped moment, from the two beside it
    pub drop_first : (upper : End Number) (enough : 1 + dropped upper < n) →
        moments NotAKnot upper 0
        ≡ ((Steps.h A x 0 ⊕ Steps.h A x 1) ⊗ moments NotAKnot upper 1 ⊖ Steps.h A x 0 ⊗ moments NotAKnot upper 2) ⊘ Steps.h A x 1
    unfolding Moments.first_moment
    drop_first upper enough =
        moment_first x y n rising NotAKnot upper enough
        ∙ ap₂ (λ p q. ((Steps.h A x 0 ⊕ Steps.h A x 1) ⊗ p ⊖ Steps.h A x 0 ⊗ q) ⊘ Steps.h A x 1)
        (sym (moment_is x y n rising NotAKnot upper enough 1 (omega arith) (omega arith)))
        (sym (moment_is x y n rising NotAKnot upper enough 2 (omega arith) (omega arith)))

    pub drop_last : (lower : End Number) (enough : dropped lower + 1 < n) →
        moments lower NotAKnot n
        ≡ ((Steps.h A x (n - 2) ⊕ Steps.h A x (n - 1)) ⊗ moments lower NotAKnot (n - 1) ⊖ Steps.h A x (n - 1) ⊗ moments lower NotAKnot
        (n - 2))
        ⊘ Steps.h A x (n - 2)
    unfolding Moments.last_moment
    drop_last lower enough =
        moment_last x y n rising lower NotAKnot enough
        ∙ ap₂ (λ p q. ((Steps.h A x (n - 2) ⊕ Steps.h A x (n - 1)) ⊗ p ⊖ Steps.h A x (n - 1) ⊗ q) ⊘ Steps.h A x (n - 2))
        (sym (moment_is x y n rising lower NotAKnot enough (n - 1) (omega arith) (omega arith) ∙ ap
        (inner x y n rising lower NotAKnot enough) (omega arith)))
        (sym (moment_is x y n rising lower NotAKnot enough (n - 2) (omega arith) (omega arith) ∙ ap
        (inner x y n rising lower NotAKnot enough) (omega arith)))

    -- the row of knot 1 where the lower end dropped its moment
    interior_first : (lower upper : End Number) → dropped lower + dropped upper < n → 0 < dropped lower
        → Knots.Interior A F x y (moments lower upper) 0
    unfolding Moments.lower_row
    interior_first NotAKnot upper enough d =
        ap (λ z. Steps.h A x 0 ⊗ z ⊕ two ⊗
        (Steps.h A x 0 ⊕ Steps.h A x 1) ⊗ moments NotAKnot upper 1 ⊕ Steps.h A x 1 ⊗ moments NotAKnot upper 2)
        (drop_first upper enough)
        ∙ lower_drop _ _ _ _ _ (wide 1 (omega arith)) (first_row x y n rising NotAKnot upper enough)
    interior_first (FirstDerivative v) upper enough d = let f : ⊥ = omega arith in absurd f
    interior_first (SecondDerivative v) upper enough d = let f : ⊥ = omega arith in absurd f

    -- the row of knot n - 1 where the upper end dropped its moment
    interior_last : (lower upper : End Number) → dropped lower + dropped upper < n → 0 < dropped upper →
        Steps.h A x (n - 2) ⊗ moments lower upper (n - 2) ⊕ two ⊗ (Steps.h A x (n - 2) ⊕ Steps.h A x (n - 1)) ⊗ moments lower upper (n - 1)
        ⊕ Steps.h A x (n - 1) ⊗ moments lower upper n
        ≡ Steps.u A x y (n - 2)
    unfolding Moments.upper_row
    interior_last lower NotAKnot enough d =
        ap (λ z. Steps.h A x (n - 2) ⊗ moments lower NotAKnot (n - 2) ⊕ two ⊗
        (Steps.h A x (n - 2) ⊕ Steps.h A x (n - 1)) ⊗ moments lower NotAKnot (n - 1) ⊕ Steps.h A x (n - 1) ⊗ z)
        (drop_last lower enough)
        ∙ upper_drop _ _ _ _ _ (wide (n - 2) (omega arith))
        (last_row_at x y n rising lower NotAKnot enough (n - 2) (n - 1) (omega arith) (omega arith))
    interior_last lower (FirstDerivative v) enough d = let f : ⊥ = omega arith in absurd f
    interior_last lower (SecondDerivative v) enough d = let f : ⊥ = omega arith in absurd f

    -- the row of every interior knot
    pub interior : (lower upper : End Number) → dropped lower + dropped upper < n → (k : ℕ) → k + 1 < n
        → Knots.Interior A F x y (moments lower upper) k
    interior lower upper enough k b = go (dec_lt k (dropped lower)) (dec_lt (k + 1 + dropped upper) n)
      where
        at_most : (e : End Number) → dropped e ≤ 1
        at_most NotAKnot = omega arith
        at_most (FirstDerivative v) = omega arith
        at_most (SecondDerivative v) = omega arith

        go : Dec (k < dropped lower) → Dec (k + 1 + dropped upper < n) → Knots.Interior A F x y (moments lower upper) k
        go (yes i) j =
            let e : 0 ≡ k = omega (arith, at_most lower) in
            subst (λ k. Knots.Interior A F x y (moments lower upper) k) e (interior_first lower upper enough (omega arith))
        go (no i) (yes j) = middle_row x y n rising lower upper enough k (omega arith) j
        go (no i) (no j) =
            let e : n - 2 ≡ k = omega (arith, at_most upper) in
            let f : n - 1 ≡ k + 1 = omega (arith, at_most upper) in
            let g : n ≡ k + 1 + 1 = omega (arith, at_most upper) in
            ap₂ ◌⊕◌
            (ap₂ ◌⊕◌
            (ap (λ k. Steps.h A x k ⊗ moments lower upper k) (sym e))
            (ap₂ (λ k i. two ⊗ (Steps.h A x k ⊕ Steps.h A x i) ⊗ moments lower upper i) (sym e) (sym f)))
            (ap₂ (λ i j. Steps.h A x i ⊗ moments lower upper j) (sym f) (sym g))
            ∙ interior_last lower upper enough (omega (arith, at_most upper))
            ∙ ap (Steps.u A x y) e

    pub lower_end : (lower upper : End Number) → dropped lower + dropped upper < n → LowerEnd A x y n (moments lower upper) lower
    unfolding Moments.lower_row third_in_cell
    lower_end NotAKnot upper enough =
        ap (λ z. twist A (Steps.h A x 0) z (moments NotAKnot upper 1)) (drop_first upper enough)
        ∙ lower_third _ _ _ _ nought (wide 1 (omega arith)) (wide 0 (omega arith))
    lower_end (FirstDerivative v) upper enough =
        Knots.slope_at_lower_knot A F x y (moments (FirstDerivative v) upper) 0 (wide 0 (omega arith))
        ∙ lower_clamp _ _ _ _ v (first_row x y n rising (FirstDerivative v) upper enough)
    lower_end (SecondDerivative v) upper enough =
        Knots.second_at_lower_knot A F x y (moments (SecondDerivative v) upper) 0 (wide 0 (omega arith))
        ∙ lower_alone _ _ v (first_row x y n rising (SecondDerivative v) upper enough)

    pub upper_end : (lower upper : End Number) → dropped lower + dropped upper < n → UpperEnd A x y n (moments lower upper) upper
    unfolding Moments.upper_row third_in_cell
    upper_end lower NotAKnot enough =
        let e : n - 2 + 1 ≡ n - 1 = omega arith in
        let f : n - 1 + 1 ≡ n = omega arith in
        ap (λ k. twist A (Steps.h A x (n - 2)) (moments lower NotAKnot (n - 2)) (moments lower NotAKnot k)) e
        ∙ upper_third _ _ _ _ nought (wide (n - 2) (omega arith)) (wide (n - 1) (omega arith))
        ∙ ap (λ z. twist A (Steps.h A x (n - 1)) (moments lower NotAKnot (n - 1)) z) (sym (drop_last lower enough))
        ∙ ap (λ k. twist A (Steps.h A x (n - 1)) (moments lower NotAKnot (n - 1)) (moments lower NotAKnot k)) (sym f)
    upper_end lower (FirstDerivative v) enough =
        let f : n - 1 + 1 ≡ n = omega arith in
        ap (λ k. slope_in_cell A x y (moments lower (FirstDerivative v)) (n - 1) (x k)) (sym f)
        ∙ Knots.slope_at_upper_knot A F x y (moments lower (FirstDerivative v)) (n - 1) (wide (n - 1) (omega arith))
        ∙ ap (λ k. upper_slope A (Steps.h A x (n - 1)) (Steps.s A x y (n - 1)) (moments lower (FirstDerivative v) (n - 1))
        (moments lower (FirstDerivative v) k)) f
        ∙ upper_clamp _ _ _ _ v (last_row_at x y n rising lower (FirstDerivative v) enough (n - 1) n (omega arith) (omega arith))
    upper_end lower (SecondDerivative v) enough =
        let f : n - 1 + 1 ≡ n = omega arith in
        ap (λ k. second_in_cell A x y (moments lower (SecondDerivative v)) (n - 1) (x k)) (sym f)
        ∙ Knots.second_at_upper_knot A F x y (moments lower (SecondDerivative v)) (n - 1) (wide (n - 1) (omega arith))
        ∙ ap (moments lower (SecondDerivative v)) f
        ∙ upper_alone _ _ v (last_row_at x y n rising lower (SecondDerivative v) enough (n - 1) n (omega arith) (omega arith))

    -- the curve of the moments that the rules give is the spline through the samples
    pub endpoints_spline : (lower upper : End Number) → dropped lower + dropped upper < n → IsSpline A x y n (moments lower upper)
    endpoints_spline lower upper enough =
        record {
          lower_sample = λ i b. Knots.at_lower_knot A F x y (moments lower upper) i (wide i b);
          upper_sample = λ i b. Knots.at_upper_knot A F x y (moments lower upper) i (wide i b);
          slopes_meet =
              λ i b. Knots.meet_of_interior A F x y (moments lower upper) i (wide i (omega arith)) (wide (i + 1) b)
              (interior lower upper enough i b);
          seconds_meet = λ i b. Knots.seconds_always_meet A F x y (moments lower upper) i (wide i (omega arith)) (wide (i + 1) b);
        }
