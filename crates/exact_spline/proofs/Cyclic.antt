-- The cyclic solve: where neither a pivot, nor the first number of the diagonal, nor the factor's divisor is nought, its result solves
-- every
-- row.
use mathlib.Core.Path.{◌≡◌, refl, sym, ◌∙◌, ap, ap₂}
use mathlib.Core.List.{[], ◌∷◌}
use Prim.Native.Nat.{ℕ, suc, ◌<◌}
use native.Mathlib.Omega.{arith}
use lib.Dec.{eqb}
use borrow.Author.Tests.{eq-eqb, ne_eqb}
use Rattle.exact_arithmetic.specs.Arithmetic.{Arithmetic, IsField}
use Rattle.exact_solver.specs.Expressions.{var, t0, t1, add, sub, mul, div}
use Rattle.exact_solver.proofs.Solver.{solve}
use Rattle.exact_spline.specs.Solve as Solve
use Rattle.exact_spline.specs.Rows.{Solves, SolvesCyclic}
use Rattle.exact_spline.proofs.Tests.{cond_true, cond_false}

module _ (A : Arithmetic) (F : IsField A) where
  infixl 60 ◌⊕◌
  infixl 60 ◌⊖◌
  infixl 70 ◌⊗◌
  infixl 70 ◌⊘◌
  open A use {Number, nought, one, two, six, plus as ◌⊕◌, minus as ◌⊖◌, times as ◌⊗◌, over as ◌⊘◌, negative as ~}

  -- rows of both solves, y0 y1 y2 of the first and z0 z1 z2 of the second, and a factor f of it taken away
  first_row : (g d s c r y0 y1 y2 z0 z1 z2 f : Number) → ¬ (g ≡ nought)
      → (d ⊖ g) ⊗ y0 ⊕ s ⊗ y1 ≡ r → (d ⊖ g) ⊗ z0 ⊕ s ⊗ z1 ≡ g
      → f ⊗ (one ⊕ (z0 ⊕ c ⊘ g ⊗ z2)) ≡ y0 ⊕ c ⊘ g ⊗ y2
      → d ⊗ (y0 ⊖ f ⊗ z0) ⊕ s ⊗ (y1 ⊖ f ⊗ z1) ⊕ c ⊗ (y2 ⊖ f ⊗ z2) ≡ r
  first_row g d s c r y0 y1 y2 z0 z1 z2 f h ey ez ef =
      solve A F 1 (g ∷ d ∷ s ∷ c ∷ y0 ∷ y1 ∷ y2 ∷ z0 ∷ z1 ∷ z2 ∷ f ∷ []) (h, tt)
      (add (add (mul (var 1) (sub (var 4) (mul (var 10) (var 7)))) (mul (var 2) (sub (var 5) (mul (var 10) (var 8)))))
      (mul (var 3) (sub (var 6) (mul (var 10) (var 9)))))
      (add (add
      (sub (add (mul (sub (var 1) (var 0)) (var 4)) (mul (var 2) (var 5)))
      (mul (var 10) (add (mul (sub (var 1) (var 0)) (var 7)) (mul (var 2) (var 8))))) (mul (var 10) (var 0)))
      (mul (var 0)
      (sub (add (var 4) (mul (div (var 3) (var 0)) (var 6))) (mul (var 10) (add t1 (add (var 7) (mul (div (var 3) (var 0)) (var 9))))))))
      tt tt tt
      ∙ ap₂ (λ p q. p ⊖ f ⊗ q ⊕ f ⊗ g ⊕ g ⊗ (y0 ⊕ c ⊘ g ⊗ y2 ⊖ f ⊗ (one ⊕ (z0 ⊕ c ⊘ g ⊗ z2)))) ey ez
      ∙ ap (λ p. r ⊖ f ⊗ g ⊕ f ⊗ g ⊕ g ⊗ (y0 ⊕ c ⊘ g ⊗ y2 ⊖ p)) ef
      ∙ solve A F 1 (g ∷ r ∷ f ∷ y0 ∷ c ∷ y2 ∷ []) (h, tt)
      (add (add (sub (var 1) (mul (var 2) (var 0))) (mul (var 2) (var 0)))
      (mul (var 0) (sub (add (var 3) (mul (div (var 4) (var 0)) (var 5))) (add (var 3) (mul (div (var 4) (var 0)) (var 5))))))
      (var 1)
      tt tt tt

  middle_row : (a d s r y0 y1 y2 z0 z1 z2 f : Number)
      → a ⊗ y0 ⊕ d ⊗ y1 ⊕ s ⊗ y2 ≡ r → a ⊗ z0 ⊕ d ⊗ z1 ⊕ s ⊗ z2 ≡ nought
      → a ⊗ (y0 ⊖ f ⊗ z0) ⊕ d ⊗ (y1 ⊖ f ⊗ z1) ⊕ s ⊗ (y2 ⊖ f ⊗ z2) ≡ r
  middle_row a d s r y0 y1 y2 z0 z1 z2 f ey ez =
      solve A F 0 (a ∷ d ∷ s ∷ y0 ∷ y1 ∷ y2 ∷ z0 ∷ z1 ∷ z2 ∷ f ∷ []) tt
      (add (add (mul (var 0) (sub (var 3) (mul (var 9) (var 6)))) (mul (var 1) (sub (var 4) (mul (var 9) (var 7)))))
      (mul (var 2) (sub (var 5) (mul (var 9) (var 8)))))
      (sub (add (add (mul (var 0) (var 3)) (mul (var 1) (var 4))) (mul (var 2) (var 5)))
      (mul (var 9) (add (add (mul (var 0) (var 6)) (mul (var 1) (var 7))) (mul (var 2) (var 8)))))
      tt tt tt
      ∙ ap₂ (λ p q. p ⊖ f ⊗ q) ey ez
      ∙ solve A F 0 (r ∷ f ∷ []) tt (sub (var 0) (mul (var 1) t0)) (var 0) tt tt tt

  last_row : (g a d c r y0 y1 y2 z0 z1 z2 f : Number) → ¬ (g ≡ nought)
      → a ⊗ y1 ⊕ (d ⊖ c ⊗ c ⊘ g) ⊗ y2 ≡ r → a ⊗ z1 ⊕ (d ⊖ c ⊗ c ⊘ g) ⊗ z2 ≡ c
      → f ⊗ (one ⊕ (z0 ⊕ c ⊘ g ⊗ z2)) ≡ y0 ⊕ c ⊘ g ⊗ y2
      → a ⊗ (y1 ⊖ f ⊗ z1) ⊕ d ⊗ (y2 ⊖ f ⊗ z2) ⊕ c ⊗ (y0 ⊖ f ⊗ z0) ≡ r
  last_row g a d c r y0 y1 y2 z0 z1 z2 f h ey ez ef =
      solve A F 1 (g ∷ d ∷ a ∷ c ∷ y0 ∷ y1 ∷ y2 ∷ z0 ∷ z1 ∷ z2 ∷ f ∷ []) (h, tt)
      (add (add (mul (var 2) (sub (var 5) (mul (var 10) (var 8)))) (mul (var 1) (sub (var 6) (mul (var 10) (var 9)))))
      (mul (var 3) (sub (var 4) (mul (var 10) (var 7)))))
      (add (add (sub (add (mul (var 2) (var 5)) (mul (sub (var 1) (div (mul (var 3) (var 3)) (var 0))) (var 6)))
      (mul (var 10) (add (mul (var 2) (var 8)) (mul (sub (var 1) (div (mul (var 3) (var 3)) (var 0))) (var 9))))) (mul (var 10) (var 3)))
      (mul (var 3)
      (sub (add (var 4) (mul (div (var 3) (var 0)) (var 6))) (mul (var 10) (add t1 (add (var 7) (mul (div (var 3) (var 0)) (var 9))))))))
      tt tt tt
      ∙ ap₂ (λ p q. p ⊖ f ⊗ q ⊕ f ⊗ c ⊕ c ⊗ (y0 ⊕ c ⊘ g ⊗ y2 ⊖ f ⊗ (one ⊕ (z0 ⊕ c ⊘ g ⊗ z2)))) ey ez
      ∙ ap (λ p. r ⊖ f ⊗ c ⊕ f ⊗ c ⊕ c ⊗ (y0 ⊕ c ⊘ g ⊗ y2 ⊖ p)) ef
      ∙ solve A F 1 (g ∷ r ∷ f ∷ y0 ∷ c ∷ y2 ∷ []) (h, tt)
      (add (add (sub (var 1) (mul (var 2) (var 4))) (mul (var 2) (var 4)))
      (mul (var 4) (sub (add (var 3) (mul (div (var 4) (var 0)) (var 5))) (add (var 3) (mul (div (var 4) (var 0)) (var 5))))))
      (var 1)
      tt tt tt

  module _ (sub diag sup rhs : ℕ → Number) (corner : Number) (l : ℕ) where
    abbrev gamma : Number
    gamma = ~ (diag 0)

    abbrev diag_mod : ℕ → Number
    diag_mod = Solve.diag_mod A sub diag sup rhs corner (suc l)

    abbrev u_vec : ℕ → Number
    u_vec = Solve.u_vec A sub diag sup rhs corner (suc l)

    abbrev y : ℕ → Number
    y = Solve.y A sub diag sup rhs corner (suc l)

    abbrev z : ℕ → Number
    z = Solve.z A sub diag sup rhs corner (suc l)

    abbrev factor : Number
    factor = Solve.factor A sub diag sup rhs corner (suc l)

    abbrev divisor : Number
    divisor = one ⊕ (z 0 ⊕ corner ⊘ gamma ⊗ z (suc l))

    pub diag_mod_first : diag_mod 0 ≡ diag 0 ⊖ gamma
    unfolding Solve.diag_mod
    diag_mod_first = refl

    pub diag_mod_middle : (k : ℕ) → k < l → diag_mod (suc k) ≡ diag (suc k)
    unfolding Solve.diag_mod
    diag_mod_middle k h =
        cond_false (eqb (suc k) 0) _ _ (ne_eqb (suc k) 0 (λ e. omega arith))
        ∙ cond_false (eqb (suc k) (suc l)) _ _ (ne_eqb (suc k) (suc l) (λ e. omega arith))

    pub diag_mod_last : diag_mod (suc l) ≡ diag (suc l) ⊖ corner ⊗ corner ⊘ gamma
    unfolding Solve.diag_mod
    diag_mod_last =
        cond_false (eqb (suc l) 0) _ _ (ne_eqb (suc l) 0 (λ e. omega arith))
        ∙ cond_true (eqb (suc l) (suc l)) _ _ (eq-eqb (suc l) (suc l) refl)

    pub u_vec_first : u_vec 0 ≡ gamma
    unfolding Solve.u_vec
    u_vec_first = refl

    pub u_vec_middle : (k : ℕ) → k < l → u_vec (suc k) ≡ nought
    unfolding Solve.u_vec
    u_vec_middle k h =
        cond_false (eqb (suc k) 0) _ _ (ne_eqb (suc k) 0 (λ e. omega arith))
        ∙ cond_false (eqb (suc k) (suc l)) _ _ (ne_eqb (suc k) (suc l) (λ e. omega arith))

    pub u_vec_last : u_vec (suc l) ≡ corner
    unfolding Solve.u_vec
    u_vec_last =
        cond_false (eqb (suc l) 0) _ _ (ne_eqb (suc l) 0 (λ e. omega arith))
        ∙ cond_true (eqb (suc l) (suc l)) _ _ (eq-eqb (suc l) (suc l) refl)

    module _ (h : ¬ (gamma ≡ nought)) (q : ¬ (divisor ≡ nought)) (ys : Solves A sub diag_mod sup rhs l y)
        (zs : Solves A sub diag_mod sup u_vec l z) where
      factor_is : factor ⊗ divisor ≡ y 0 ⊕ corner ⊘ gamma ⊗ y (suc l)
      unfolding Solve.factor
      factor_is = F.over_times _ _ q

      pub cyclic_solves : SolvesCyclic A sub diag sup rhs corner l (Solve.cyclic_thomas A sub diag sup rhs corner (suc l))
      unfolding Solve.cyclic_thomas
      cyclic_solves =
          record {
            first =
                first_row gamma (diag 0) (sup 0) corner (rhs 0) (y 0) (y 1) (y (suc l)) (z 0) (z 1) (z (suc l)) factor h ys.first
                zs.first factor_is;
            middle = λ k b.
                middle_row (sub k) (diag (suc k)) (sup (suc k)) (rhs (suc k)) (y k) (y (suc k)) (y (suc (suc k))) (z k) (z (suc k))
                (z (suc (suc k))) factor
                (ap (λ d. sub k ⊗ y k ⊕ d ⊗ y (suc k) ⊕ sup (suc k) ⊗ y (suc (suc k))) (sym (diag_mod_middle k b)) ∙ ys.middle k b)
                (ap (λ d. sub k ⊗ z k ⊕ d ⊗ z (suc k) ⊕ sup (suc k) ⊗ z (suc (suc k)))
                (sym (diag_mod_middle k b)) ∙ zs.middle k b ∙ u_vec_middle k b);
            last =
                last_row gamma (sub l) (diag (suc l)) corner (rhs (suc l)) (y 0) (y l) (y (suc l)) (z 0) (z l) (z (suc l)) factor h
                (ap (λ d. sub l ⊗ y l ⊕ d ⊗ y (suc l)) (sym diag_mod_last) ∙ ys.last)
                (ap (λ d. sub l ⊗ z l ⊕ d ⊗ z (suc l)) (sym diag_mod_last) ∙ zs.last ∙ u_vec_last)
                factor_is;
          }
