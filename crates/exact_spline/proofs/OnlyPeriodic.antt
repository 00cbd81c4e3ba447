-- There is no other periodic spline: its moments solve the cyclic rows, and these have one solution.
use mathlib.Core.Path.{◌≡◌, refl, sym, ◌∙◌, ap, ap₂}
use mathlib.Core.List.{[], ◌∷◌}
use Prim.Native.Nat.{ℕ, suc, ◌+◌, ◌-◌, ◌<◌, ◌≤◌}
use native.Mathlib.Decide.{dec_lt, dec_le, ℕ_discrete}
use native.Mathlib.Omega.{arith}
use Rattle.exact_arithmetic.specs.Arithmetic.{Arithmetic, IsField, IsOrdered}
use Rattle.exact_solver.specs.Expressions.{Term, var, t0, t1, t2, add, sub, mul, div, terms}
use Rattle.exact_solver.proofs.Solver.{solve}
use Rattle.exact_spline.specs.Steps as Steps
use Rattle.exact_spline.specs.Solve as Solve
use Rattle.exact_spline.specs.Rows.{Solves, SolvesCyclic}
use Rattle.exact_spline.specs.Moments as Moments
use Rattle.exact_spline.specs.Ends.{Periodic}
use Rattle.exact_spline.specs.Curve.{lower_slope, upper_slope}
use Rattle.exact_spline.specs.Derivatives.{slope_in_cell, second_in_cell}
use Rattle.exact_spline.specs.Spline.{IsSpline, Closed}
use Rattle.exact_spline.proofs.Thomas as Thomas
use Rattle.exact_spline.proofs.Knots as Knots
use Rattle.exact_spline.proofs.Cyclic as Cyclic
use Rattle.exact_spline.proofs.Periodic as Per

module _ (A : Arithmetic) (F : IsField A) where
  infixl 60 ◌⊕◌
  infixl 60 ◌⊖◌
  infixl 70 ◌⊗◌
  infixl 70 ◌⊘◌
  open A use {Number, nought, one, two, three, six, plus as ◌⊕◌, minus as ◌⊖◌, times as ◌⊗◌, over as ◌⊘◌, negative as ~}

  -- with so many times the second result added, the rows without corners are solved
  first_row : (g d s c r p0 p1 p2 z0 z1 : Number) → ¬ (g ≡ nought) → d ⊗ p0 ⊕ s ⊗ p1 ⊕ c ⊗ p2 ≡ r → (d ⊖ g) ⊗ z0 ⊕ s ⊗ z1 ≡ g
      → (d ⊖ g) ⊗ (p0 ⊕ (p0 ⊕ c ⊘ g ⊗ p2) ⊗ z0) ⊕ s ⊗ (p1 ⊕ (p0 ⊕ c ⊘ g ⊗ p2) ⊗ z1) ≡ r
  first_row g d s c r p0 p1 p2 z0 z1 h e f =
      solve A F 1 (g ∷ d ∷ s ∷ c ∷ p0 ∷ p1 ∷ p2 ∷ z0 ∷ z1 ∷ []) (h, tt)
      (add (mul (sub (var 1) (var 0)) (add (var 4) (mul f_term (var 7)))) (mul (var 2) (add (var 5) (mul f_term (var 8)))))
      (add (sub (add (add (mul (var 1) (var 4)) (mul (var 2) (var 5))) (mul (var 3) (var 6))) (mul (var 0) f_term))
      (mul f_term (add (mul (sub (var 1) (var 0)) (var 7)) (mul (var 2) (var 8)))))
      tt tt tt
      ∙ ap₂ (λ a b. a ⊖ g ⊗ (p0 ⊕ c ⊘ g ⊗ p2) ⊕ (p0 ⊕ c ⊘ g ⊗ p2) ⊗ b) e f
      ∙ solve A F 1 (g ∷ r ∷ c ∷ c ∷ p0 ∷ p2 ∷ p2 ∷ []) (h, tt) (add (sub (var 1) (mul (var 0) f_term)) (mul f_term (var 0)))
      (var 1) tt tt tt
    where
      f_term : Term
      f_term = add (var 4) (mul (div (var 3) (var 0)) (var 6))

  middle_row : (a d s r f p0 p1 p2 z0 z1 z2 : Number) → a ⊗ p0 ⊕ d ⊗ p1 ⊕ s ⊗ p2 ≡ r → a ⊗ z0 ⊕ d ⊗ z1 ⊕ s ⊗ z2 ≡ nought
      → a ⊗ (p0 ⊕ f ⊗ z0) ⊕ d ⊗ (p1 ⊕ f ⊗ z1) ⊕ s ⊗ (p2 ⊕ f ⊗ z2) ≡ r
  middle_row a d s r f p0 p1 p2 z0 z1 z2 e g =
      solve A F 0 (a ∷ d ∷ s ∷ f ∷ p0 ∷ p1 ∷ p2 ∷ z0 ∷ z1 ∷ z2 ∷ []) tt
      (add (add (mul (var 0) (add (var 4) (mul (var 3) (var 7)))) (mul (var 1) (add (var 5) (mul (var 3) (var 8)))))
      (mul (var 2) (add (var 6) (mul (var 3) (var 9)))))
      (add (add (add (mul (var 0) (var 4)) (mul (var 1) (var 5))) (mul (var 2) (var 6)))
      (mul (var 3) (add (add (mul (var 0) (var 7)) (mul (var 1) (var 8))) (mul (var 2) (var 9)))))
      tt tt tt
      ∙ ap₂ (λ p q. p ⊕ f ⊗ q) e g
      ∙ solve A F 0 (r ∷ f ∷ []) tt (add (var 0) (mul (var 1) t0)) (var 0) tt tt tt

  last_row : (g a d c r p0 p1 p2 z1 z2 : Number) → ¬ (g ≡ nought) → a ⊗ p1 ⊕ d ⊗ p2 ⊕ c ⊗ p0 ≡ r → a ⊗ z1 ⊕ (d ⊖ c ⊗ c ⊘ g) ⊗ z2 ≡ c
      → a ⊗ (p1 ⊕ (p0 ⊕ c ⊘ g ⊗ p2) ⊗ z1) ⊕ (d ⊖ c ⊗ c ⊘ g) ⊗ (p2 ⊕ (p0 ⊕ c ⊘ g ⊗ p2) ⊗ z2) ≡ r
  last_row g a d c r p0 p1 p2 z1 z2 h e f =
      solve A F 1 (g ∷ d ∷ a ∷ c ∷ p0 ∷ p1 ∷ p2 ∷ z1 ∷ z2 ∷ []) (h, tt)
      (add (mul (var 2) (add (var 5) (mul f_term (var 7))))
      (mul (sub (var 1) (div (mul (var 3) (var 3)) (var 0))) (add (var 6) (mul f_term (var 8)))))
      (add (sub (add (add (mul (var 2) (var 5)) (mul (var 1) (var 6))) (mul (var 3) (var 4))) (mul (var 3) f_term))
      (mul f_term (add (mul (var 2) (var 7)) (mul (sub (var 1) (div (mul (var 3) (var 3)) (var 0))) (var 8)))))
      tt tt tt
      ∙ ap₂ (λ p q. p ⊖ c ⊗ (p0 ⊕ c ⊘ g ⊗ p2) ⊕ (p0 ⊕ c ⊘ g ⊗ p2) ⊗ q) e f
      ∙ solve A F 1 (g ∷ r ∷ c ∷ c ∷ p0 ∷ p2 ∷ p2 ∷ []) (h, tt) (add (sub (var 1) (mul (var 3) f_term)) (mul f_term (var 3)))
      (var 1) tt tt tt
    where
      f_term : Term
      f_term = add (var 4) (mul (div (var 3) (var 0)) (var 6))

  -- the factor is what it must be
  factor_forced : (g c q p0 p2 y0 y2 z0 z2 : Number) → ¬ (q ≡ nought) → q ≡ one ⊕ (z0 ⊕ c ⊘ g ⊗ z2) → ¬ (g ≡ nought)
      → p0 ⊕ (p0 ⊕ c ⊘ g ⊗ p2) ⊗ z0 ≡ y0 → p2 ⊕ (p0 ⊕ c ⊘ g ⊗ p2) ⊗ z2 ≡ y2
      → p0 ⊕ c ⊘ g ⊗ p2 ≡ (y0 ⊕ c ⊘ g ⊗ y2) ⊘ q
  factor_forced g c q p0 p2 y0 y2 z0 z2 hq eq hg e f =
      solve A F 1 (q ∷ (p0 ⊕ c ⊘ g ⊗ p2) ∷ []) (hq, tt) (var 1) (div (mul (var 1) (var 0)) (var 0)) tt tt tt
      ∙ ap (λ z. (p0 ⊕ c ⊘ g ⊗ p2) ⊗ z ⊘ q) eq
      ∙ ap (λ z. z ⊘ q)
      (solve A F 1 (g ∷ c ∷ p0 ∷ p2 ∷ z0 ∷ z2 ∷ []) (hg, tt)
      (mul f_term (add t1 (add (var 4) (mul (div (var 1) (var 0)) (var 5)))))
      (add (add (var 2) (mul f_term (var 4))) (mul (div (var 1) (var 0)) (add (var 3) (mul f_term (var 5)))))
      tt tt tt
      ∙ ap₂ (λ a b. a ⊕ c ⊘ g ⊗ b) e f)
    where
      f_term : Term
      f_term = add (var 2) (mul (div (var 1) (var 0)) (var 3))

  take_away : (p f z y : Number) → p ⊕ f ⊗ z ≡ y → p ≡ y ⊖ f ⊗ z
  take_away p f z y e =
      solve A F 0 (p ∷ f ∷ z ∷ []) tt (var 0) (sub (add (var 0) (mul (var 1) (var 2))) (mul (var 1) (var 2))) tt tt tt
      ∙ ap (λ a. a ⊖ f ⊗ z) e

  module _ (sub diag sup rhs : ℕ → Number) (corner : Number) (l : ℕ)
      (h : ¬ (~ (diag 0) ≡ nought))
      (q : ¬ (one ⊕ (Solve.z A sub diag sup rhs corner (suc l) 0 ⊕ corner ⊘ ~ (diag 0) ⊗ Solve.z A sub diag sup rhs corner (suc l) (suc l))
      ≡ nought))
      (pivots : (k : ℕ) → k ≤ suc l → ¬ (Solve.w A sub (Solve.diag_mod A sub diag sup rhs corner (suc l)) sup rhs k ≡ nought))
      (zs : Solves A sub (Solve.diag_mod A sub diag sup rhs corner (suc l)) sup (Solve.u_vec A sub diag sup rhs corner (suc l)) l
      (Solve.z A sub diag sup rhs corner (suc l)))
      (t : ℕ → Number) (ts : SolvesCyclic A sub diag sup rhs corner l t) where
    abbrev z : ℕ → Number
    z = Solve.z A sub diag sup rhs corner (suc l)

    abbrev y : ℕ → Number
    y = Solve.y A sub diag sup rhs corner (suc l)

    abbrev f : Number
    f = t 0 ⊕ corner ⊘ ~ (diag 0) ⊗ t (suc l)

    mixed : Solves A sub (Solve.diag_mod A sub diag sup rhs corner (suc l)) sup rhs l (λ k. t k ⊕ f ⊗ z k)
    mixed =
        record {
          first =
              ap (λ d. d ⊗ (t 0 ⊕ f ⊗ z 0) ⊕ sup 0 ⊗ (t 1 ⊕ f ⊗ z 1)) (Cyclic.diag_mod_first A F sub diag sup rhs corner l)
              ∙ first_row (~ (diag 0)) (diag 0) (sup 0) corner (rhs 0) (t 0) (t 1) (t (suc l)) (z 0) (z 1) h ts.first
              (ap (λ d. d ⊗ z 0 ⊕ sup 0 ⊗ z 1)
              (sym (Cyclic.diag_mod_first A F sub diag sup rhs corner l)) ∙ zs.first ∙ Cyclic.u_vec_first A F sub diag sup rhs corner l);
          middle = λ k b.
              ap (λ d. sub k ⊗ (t k ⊕ f ⊗ z k) ⊕ d ⊗ (t (suc k) ⊕ f ⊗ z (suc k)) ⊕ sup (suc k) ⊗ (t (suc (suc k)) ⊕ f ⊗ z (suc (suc k))))
              (Cyclic.diag_mod_middle A F sub diag sup rhs corner l k b)
              ∙ middle_row (sub k) (diag (suc k)) (sup (suc k)) (rhs (suc k)) f (t k) (t (suc k)) (t (suc (suc k))) (z k) (z (suc k))
              (z (suc (suc k))) (ts.middle k b)
              (ap (λ d. sub k ⊗ z k ⊕ d ⊗ z (suc k) ⊕ sup (suc k) ⊗ z (suc (suc k)))
              (sym (Cyclic.diag_mod_middle A F sub diag sup rhs corner l k b)) ∙ zs.middle k b
              ∙ Cyclic.u_vec_middle A F sub diag sup rhs corner l k b);
          last =
              ap (λ d. sub l ⊗ (t l ⊕ f ⊗ z l) ⊕ d ⊗ (t (suc l) ⊕ f ⊗ z (suc l))) (Cyclic.diag_mod_last A F sub diag sup rhs corner l)
              ∙ last_row (~ (diag 0)) (sub l) (diag (suc l)) corner (rhs (suc l)) (t 0) (t l) (t (suc l)) (z l) (z (suc l)) h ts.last
              (ap (λ d. sub l ⊗ z l ⊕ d ⊗ z (suc l))
              (sym (Cyclic.diag_mod_last A F sub diag sup rhs corner l)) ∙ zs.last ∙ Cyclic.u_vec_last A F sub diag sup rhs corner l);
        }

    mixed_is : (k : ℕ) → k ≤ suc l → t k ⊕ f ⊗ z k ≡ y k
    unfolding Solve.y
    mixed_is k b =
        Thomas.thomas_only A F sub (Solve.diag_mod A sub diag sup rhs corner (suc l)) sup rhs l pivots (λ k. t k ⊕ f ⊗ z k) mixed k b

    factor_is : f ≡ Solve.factor A sub diag sup rhs corner (suc l)
    unfolding Solve.factor
    factor_is =
        factor_forced (~ (diag 0)) corner _ (t 0) (t (suc l)) (y 0) (y (suc l)) (z 0) (z (suc l)) q refl h (mixed_is 0 (omega arith))
        (mixed_is (suc l) (omega arith))

    pub cyclic_only : (k : ℕ) → k ≤ suc l → t k ≡ Solve.cyclic_thomas A sub diag sup rhs corner (suc l) k
    unfolding Solve.cyclic_thomas
    cyclic_only k b = take_away (t k) f (z k) (y k) (mixed_is k b) ∙ ap (λ a. y k ⊖ a ⊗ z k) factor_is

  -- of one cell: twice the moment is nought
  one_cell : (a t p q : Number) → ¬ (a ≡ nought) → q ≡ p → upper_slope A a t p q ≡ lower_slope A a t p q → p ≡ nought
  one_cell a t p q h e f =
      solve A F 1 (a ∷ t ∷ p ∷ q ∷ []) (h, tt) (var 2)
      (add (div (sub (upper_slope terms (var 0) (var 1) (var 2) (var 3)) (lower_slope terms (var 0) (var 1) (var 2) (var 3))) (var 0))
      (div (sub (var 2) (var 3)) t2)) tt tt tt
      ∙ ap₂ (λ b c. (b ⊖ lower_slope A a t p q) ⊘ a ⊕ (p ⊖ c) ⊘ two) f e
      ∙ solve A F 1 (a ∷ t ∷ p ∷ q ∷ []) (h, tt)
      (add (div (sub (lower_slope terms (var 0) (var 1) (var 2) (var 3)) (lower_slope terms (var 0) (var 1) (var 2) (var 3))) (var 0))
      (div (sub (var 2) (var 2)) t2)) t0 tt tt tt

  module _ (O : IsOrdered A) (x y : ℕ → Number) (n : ℕ) (rising : (i : ℕ) → i < n → O.Positive (Steps.h A x i)) (t : ℕ → Number)
      (spline : IsSpline A x y n t) (closed : Closed A x y n t) where
    abbrev step : ℕ → Number
    step = Steps.h A x

    wide : (i : ℕ) → i < n → ¬ (step i ≡ nought)
    wide i b = O.positive_not_nought _ (rising i b)

    -- the last moment is the first
    comes_back : 1 ≤ n → t n ≡ t 0
    comes_back b =
        let e : n - 1 + 1 ≡ n = omega arith in
        ap t (sym e)
        ∙ sym (Knots.second_at_upper_knot A F x y t (n - 1) (wide (n - 1) (omega arith)))
        ∙ ap (λ i. second_in_cell A x y t (n - 1) (x i)) e
        ∙ closed.seconds_close
        ∙ Knots.second_at_lower_knot A F x y t 0 (wide 0 b)

    slopes_back : 1 ≤ n
        → upper_slope A (step (n - 1)) (Steps.s A x y (n - 1)) (t (n - 1)) (t n) ≡ lower_slope A (step 0) (Steps.s A x y 0) (t 0) (t 1)
    slopes_back b =
        let e : n - 1 + 1 ≡ n = omega arith in
        ap (λ i. upper_slope A (step (n - 1)) (Steps.s A x y (n - 1)) (t (n - 1)) (t i)) (sym e)
        ∙ sym (Knots.slope_at_upper_knot A F x y t (n - 1) (wide (n - 1) (omega arith)))
        ∙ ap (λ i. slope_in_cell A x y t (n - 1) (x i)) e
        ∙ closed.slopes_close
        ∙ Knots.slope_at_lower_knot A F x y t 0 (wide 0 b)

    interior : (k : ℕ) → k + 1 < n → Knots.Interior A F x y t k
    interior k b = Knots.interior_of_meet A F x y t k (wide k (omega arith)) (wide (k + 1) b) (spline.slopes_meet k b)

    module _ (two_cells : 2 ≤ n) where
      abbrev l : ℕ
      l = n - 2

      abbrev c : Number
      c = step (n - 1)

      abbrev diag : ℕ → Number
      diag = Moments.periodic_diag A x y n

      abbrev rhs : ℕ → Number
      rhs = Moments.periodic_rhs A x y n

      solved : SolvesCyclic A step diag step rhs c l t
      solved =
          record {
            first =
                ap (λ d. d ⊗ t 0 ⊕ step 0 ⊗ t 1 ⊕ c ⊗ t (suc l)) (Per.diag_first A F O x y n rising)
                ∙ solve A F 0 (c ∷ step 0 ∷ t (suc l) ∷ t 0 ∷ t 1 ∷ []) tt
                (add (add (mul (mul t2 (add (var 0) (var 1))) (var 3)) (mul (var 1) (var 4))) (mul (var 0) (var 2)))
                (add (add (mul (var 0) (var 2)) (mul (mul t2 (add (var 0) (var 1))) (var 3))) (mul (var 1) (var 4)))
                tt tt tt
                ∙ Knots.row_of_slopes A F c (step 0) (Steps.s A x y (n - 1)) (Steps.s A x y 0) (t (suc l)) (t 0) (t 1)
                (ap₂ (upper_slope A c (Steps.s A x y (n - 1))) (ap t (omega arith)) (sym (comes_back (omega arith))) ∙ slopes_back
                (omega arith))
                ∙ sym (Per.rhs_first A F O x y n rising);
            middle = λ k b.
                let e : suc k ≡ k + 1 = omega arith in
                ap₂ ◌⊕◌
                (ap (λ z. step k ⊗ t k ⊕ z) (ap₂ ◌⊗◌ (Per.diag_next A F O x y n rising k ∙ ap (λ j. two ⊗ (step k ⊕ step j)) e) (ap t e)))
                (ap₂ ◌⊗◌ (ap step e) (ap t (omega arith)))
                ∙ interior k (omega arith)
                ∙ sym (Per.rhs_next A F O x y n rising k);
            last =
                let e : suc l ≡ l + 1 = omega arith in
                ap₂ ◌⊕◌
                (ap (λ z. step l ⊗ t l ⊕ z) (ap₂ ◌⊗◌ (Per.diag_next A F O x y n rising l ∙ ap (λ j. two ⊗ (step l ⊕ step j)) e) (ap t e)))
                (ap₂ ◌⊗◌ (ap step (omega arith)) (sym (comes_back (omega arith)) ∙ ap t (omega arith)))
                ∙ interior l (omega arith)
                ∙ sym (Per.rhs_next A F O x y n rising l);
          }

      inside_only : (k : ℕ) → k ≤ suc l → t k ≡ Solve.cyclic_thomas A step diag step rhs c (suc l) k
      inside_only =
          cyclic_only step diag step rhs c l
          (Per.negative_not_nought A F O (diag 0) (Per.pd A F O x y n rising two_cells))
          (Per.divisor A F O x y n rising two_cells)
          (Per.pivots A F O x y n rising two_cells rhs)
          (Per.zs A F O x y n rising two_cells)
          t solved

      only : (k : ℕ) → k ≤ n → t k ≡ Moments.moment A x y n Periodic k
      only k b = go (dec_lt k n)
        where
          go : Dec (k < n) → t k ≡ Moments.moment A x y n Periodic k
          go (yes i) = inside_only k (omega arith) ∙ sym (Per.moment_is A F O x y n rising two_cells k i)
          go (no i) =
              let e : k ≡ n = omega arith in
              ap t e ∙ comes_back (omega arith) ∙ inside_only 0 (omega arith) ∙ sym (Per.moment_last A F O x y n rising two_cells)
              ∙ ap (Moments.moment A x y n Periodic) (sym e)

    only_one : n ≡ 1 → (k : ℕ) → k ≤ n → t k ≡ Moments.moment A x y n Periodic k
    only_one e k b = go (ℕ_discrete k 0)
      where
        back : t 1 ≡ t 0
        back = ap t (sym e) ∙ comes_back (omega arith)

        zero_is : t 0 ≡ nought
        zero_is =
            one_cell (step 0) (Steps.s A x y 0) (t 0) (t 1) (wide 0 (omega arith)) back
            (let f : 0 ≡ n - 1 = omega arith in
            ap₂ (λ i j. upper_slope A (step i) (Steps.s A x y i) (t i) (t j)) f (sym e) ∙ slopes_back (omega arith))

        go : Dec (k ≡ 0) → t k ≡ Moments.moment A x y n Periodic k
        go (yes i) = ap t i ∙ zero_is ∙ sym (Per.moment_nought A F O x y n rising e k)
        go (no i) = let j : k ≡ 1 = omega arith in ap t j ∙ back ∙ zero_is ∙ sym (Per.moment_nought A F O x y n rising e k)

    pub periodic_only : 1 ≤ n → (k : ℕ) → k ≤ n → t k ≡ Moments.moment A x y n Periodic k
    periodic_only b = go (dec_le 2 n)
      where
        go : Dec (2 ≤ n) → (k : ℕ) → k ≤ n → t k ≡ Moments.moment A x y n Periodic k
        go (yes i) = only i
        go (no i) = only_one (omega arith)
