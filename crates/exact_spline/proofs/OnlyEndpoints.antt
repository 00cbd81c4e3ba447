-- With these two ends there is no other spline: its moments solve the rows, and dominant rows have one solution.
use mathlib.Core.Path.{◌≡◌, refl, sym, ◌∙◌, ap, ap₂, subst}
use mathlib.Core.List.{[], ◌∷◌}
use Prim.Native.Nat.{ℕ, suc, ◌+◌, ◌-◌, ◌<◌, ◌≤◌}
use native.Mathlib.Decide.{dec_lt}
use native.Mathlib.Omega.{arith}
use Rattle.exact_arithmetic.specs.Arithmetic.{Arithmetic, IsField, IsOrdered}
use Rattle.exact_solver.specs.Expressions.{var, t0, t1, t2, t6, add, sub, mul, div, terms}
use Rattle.exact_solver.proofs.Solver.{solve}
use Rattle.exact_spline.specs.Steps as Steps
use Rattle.exact_spline.specs.Solve as Solve
use Rattle.exact_spline.specs.Rows.{Solves}
use Rattle.exact_spline.specs.Moments as Moments
use Rattle.exact_spline.specs.Ends.{End, NotAKnot, FirstDerivative, SecondDerivative, Endpoints, dropped}
use Rattle.exact_spline.specs.Curve.{lower_slope, upper_slope}
use Rattle.exact_spline.specs.Derivatives.{slope_in_cell, second_in_cell, third_in_cell, twist}
use Rattle.exact_spline.specs.Spline.{IsSpline, LowerEnd, UpperEnd}
use Rattle.exact_spline.proofs.Thomas as Thomas
use Rattle.exact_spline.proofs.Knots as Knots
use Rattle.exact_spline.proofs.Endpoints as Ends

module _ (A : Arithmetic) (F : IsField A) (O : IsOrdered A) where
  infixl 60 ◌⊕◌
  infixl 60 ◌⊖◌
  infixl 70 ◌⊗◌
  infixl 70 ◌⊘◌
  open A use {Number, nought, one, two, three, six, plus as ◌⊕◌, minus as ◌⊖◌, times as ◌⊗◌, over as ◌⊘◌}
  open O use {Positive, positive_not_nought}

  -- at the lower end: a and b are the first two steps, o p q the first three moments
  module _ (a b o p q r : Number) (wa : ¬ (a ≡ nought)) (wb : ¬ (b ≡ nought)) where
    lower_dropped : twist A a o p ≡ twist A b p q → o ≡ ((a ⊕ b) ⊗ p ⊖ a ⊗ q) ⊘ b
    lower_dropped e =
        solve A F 2 (a ∷ b ∷ o ∷ p ∷ q ∷ []) (wa, (wb, tt)) (var 2)
        (sub (var 3) (mul (var 0) (twist terms (var 0) (var 2) (var 3)))) tt tt tt
        ∙ ap (λ z. p ⊖ a ⊗ z) e
        ∙ solve A F 2 (a ∷ b ∷ o ∷ p ∷ q ∷ []) (wa, (wb, tt))
        (sub (var 3) (mul (var 0) (twist terms (var 1) (var 3) (var 4))))
        (div (sub (mul (add (var 0) (var 1)) (var 3)) (mul (var 0) (var 4))) (var 1)) tt tt tt

    lower_row_of : o ≡ ((a ⊕ b) ⊗ p ⊖ a ⊗ q) ⊘ b → a ⊗ o ⊕ two ⊗ (a ⊕ b) ⊗ p ⊕ b ⊗ q ≡ r
        → (a ⊕ b) ⊗ (a ⊕ two ⊗ b) ⊗ p ⊕ (b ⊗ b ⊖ a ⊗ a) ⊗ q ≡ b ⊗ r
    lower_row_of e f =
        solve A F 2 (a ∷ b ∷ p ∷ q ∷ []) (wa, (wb, tt))
        (add (mul (mul (add (var 0) (var 1)) (add (var 0) (mul t2 (var 1)))) (var 2))
        (mul (sub (mul (var 1) (var 1)) (mul (var 0) (var 0))) (var 3)))
        (mul (var 1)
        (add (add (mul (var 0) (div (sub (mul (add (var 0) (var 1)) (var 2)) (mul (var 0) (var 3))) (var 1)))
        (mul (mul t2 (add (var 0) (var 1))) (var 2))) (mul (var 1) (var 3))))
        tt tt tt
        ∙ ap (λ z. b ⊗ (a ⊗ z ⊕ two ⊗ (a ⊕ b) ⊗ p ⊕ b ⊗ q)) (sym e)
        ∙ ap (λ z. b ⊗ z) f

  -- at the upper end: a and b are the last two steps, p q o the last three moments
  module _ (a b p q o r : Number) (wa : ¬ (a ≡ nought)) (wb : ¬ (b ≡ nought)) where
    upper_dropped : twist A a p q ≡ twist A b q o → o ≡ ((a ⊕ b) ⊗ q ⊖ b ⊗ p) ⊘ a
    upper_dropped e =
        solve A F 2 (a ∷ b ∷ p ∷ q ∷ o ∷ []) (wa, (wb, tt)) (var 4)
        (add (var 3) (mul (var 1) (twist terms (var 1) (var 3) (var 4)))) tt tt tt
        ∙ ap (λ z. q ⊕ b ⊗ z) (sym e)
        ∙ solve A F 2 (a ∷ b ∷ p ∷ q ∷ o ∷ []) (wa, (wb, tt))
        (add (var 3) (mul (var 1) (twist terms (var 0) (var 2) (var 3))))
        (div (sub (mul (add (var 0) (var 1)) (var 3)) (mul (var 1) (var 2))) (var 0)) tt tt tt

    upper_row_of : o ≡ ((a ⊕ b) ⊗ q ⊖ b ⊗ p) ⊘ a → a ⊗ p ⊕ two ⊗ (a ⊕ b) ⊗ q ⊕ b ⊗ o ≡ r
        → (a ⊗ a ⊖ b ⊗ b) ⊗ p ⊕ (a ⊕ b) ⊗ (two ⊗ a ⊕ b) ⊗ q ≡ a ⊗ r
    upper_row_of e f =
        solve A F 2 (a ∷ b ∷ p ∷ q ∷ []) (wa, (wb, tt))
        (add (mul (sub (mul (var 0) (var 0)) (mul (var 1) (var 1))) (var 2))
        (mul (mul (add (var 0) (var 1)) (add (mul t2 (var 0)) (var 1))) (var 3)))
        (mul (var 0)
        (add (add (mul (var 0) (var 2)) (mul (mul t2 (add (var 0) (var 1))) (var 3)))
        (mul (var 1) (div (sub (mul (add (var 0) (var 1)) (var 3)) (mul (var 1) (var 2))) (var 0)))))
        tt tt tt
        ∙ ap (λ z. a ⊗ (a ⊗ p ⊕ two ⊗ (a ⊕ b) ⊗ q ⊕ b ⊗ z)) (sym e)
        ∙ ap (λ z. a ⊗ z) f

  lower_clamp_of : (a t p q v : Number) → lower_slope A a t p q ≡ v → two ⊗ a ⊗ p ⊕ a ⊗ q ≡ six ⊗ (t ⊖ v)
  lower_clamp_of a t p q v e =
      solve A F 0 (a ∷ t ∷ p ∷ q ∷ []) tt (add (mul (mul t2 (var 0)) (var 2)) (mul (var 0) (var 3)))
      (mul t6 (sub (var 1) (lower_slope terms (var 0) (var 1) (var 2) (var 3)))) tt tt tt
      ∙ ap (λ z. six ⊗ (t ⊖ z)) e

  upper_clamp_of : (a t p q v : Number) → upper_slope A a t p q ≡ v → a ⊗ p ⊕ two ⊗ a ⊗ q ≡ six ⊗ (v ⊖ t)
  upper_clamp_of a t p q v e =
      solve A F 0 (a ∷ t ∷ p ∷ q ∷ []) tt (add (mul (var 0) (var 2)) (mul (mul t2 (var 0)) (var 3)))
      (mul t6 (sub (upper_slope terms (var 0) (var 1) (var 2) (var 3)) (var 1))) tt tt tt
      ∙ ap (λ z. six ⊗ (z ⊖ t)) e

  lower_alone_of : (p q v : Number) → p ≡ v → one ⊗ p ⊕ nought ⊗ q ≡ v
  lower_alone_of p q v e = solve A F 0 (p ∷ q ∷ []) tt (add (mul t1 (var 0)) (mul t0 (var 1))) (var 0) tt tt tt ∙ e

  upper_alone_of : (p q v : Number) → q ≡ v → nought ⊗ p ⊕ one ⊗ q ≡ v
  upper_alone_of p q v e = solve A F 0 (p ∷ q ∷ []) tt (add (mul t0 (var 0)) (mul t1 (var 1))) (var 1) tt tt tt ∙ e

  module _ (x y : ℕ → Number) (n : ℕ) (rising : (i : ℕ) → i < n → Positive (Steps.h A x i)) (t : ℕ → Number)
      (spline : IsSpline A x y n t) where
    abbrev h : ℕ → Number
    h = Steps.h A x

    wide : (i : ℕ) → i < n → ¬ (h i ≡ nought)
    wide i b = positive_not_nought _ (rising i b)

    interior : (k : ℕ) → k + 1 < n → Knots.Interior A F x y t k
    interior k b = Knots.interior_of_meet A F x y t k (wide k (omega arith)) (wide (k + 1) b) (spline.slopes_meet k b)

    -- the row of knot n - 1
    interior_top : 1 < n → h (n - 2) ⊗ t (n - 2) ⊕ two ⊗ (h (n - 2) ⊕ h (n - 1)) ⊗ t (n - 1) ⊕ h (n - 1) ⊗ t n ≡ Steps.u A x y (n - 2)
    interior_top b =
        let e : n - 1 ≡ n - 2 + 1 = omega arith in
        let f : n ≡ n - 2 + 1 + 1 = omega arith in
        ap₂ (λ i j. h (n - 2) ⊗ t (n - 2) ⊕ two ⊗ (h (n - 2) ⊕ h i) ⊗ t i ⊕ h i ⊗ t j) e f ∙ interior (n - 2) (omega arith)

    drop_low : (lower : End Number) → 0 < dropped lower → 1 < n → LowerEnd A x y n t lower → t 0 ≡ ((h 0 ⊕ h 1) ⊗ t 1 ⊖ h 0 ⊗ t 2) ⊘ h 1
    unfolding third_in_cell
    drop_low NotAKnot d b e = lower_dropped (h 0) (h 1) (t 0) (t 1) (t 2) nought (wide 0 (omega arith)) (wide 1 b) e
    drop_low (FirstDerivative v) d b e = let z : ⊥ = omega arith in absurd z
    drop_low (SecondDerivative v) d b e = let z : ⊥ = omega arith in absurd z

    drop_high : (upper : End Number) → 0 < dropped upper → 1 < n → UpperEnd A x y n t upper
        → t n ≡ ((h (n - 2) ⊕ h (n - 1)) ⊗ t (n - 1) ⊖ h (n - 1) ⊗ t (n - 2)) ⊘ h (n - 2)
    unfolding third_in_cell
    drop_high NotAKnot d b e =
        let f : n - 1 ≡ n - 2 + 1 = omega arith in
        let g : n - 1 + 1 ≡ n = omega arith in
        upper_dropped (h (n - 2)) (h (n - 1)) (t (n - 2)) (t (n - 1)) (t n) nought (wide (n - 2) (omega arith)) (wide (n - 1) (omega arith))
        (ap (λ i. twist A (h (n - 2)) (t (n - 2)) (t i)) f ∙ e ∙ ap (λ i. twist A (h (n - 1)) (t (n - 1)) (t i)) g)
    drop_high (FirstDerivative v) d b e = let z : ⊥ = omega arith in absurd z
    drop_high (SecondDerivative v) d b e = let z : ⊥ = omega arith in absurd z

    first_of : (lower : End Number) → dropped lower < n → LowerEnd A x y n t lower →
        (Moments.lower_row A x y n lower).diagonal ⊗ t (dropped lower) ⊕ (Moments.lower_row A x y n lower).neighbour ⊗ t (dropped lower + 1)
        ≡ (Moments.lower_row A x y n lower).right
    unfolding Moments.lower_row
    first_of NotAKnot b e =
        lower_row_of (h 0) (h 1) (t 0) (t 1) (t 2) (Steps.u A x y 0) (wide 0 (omega arith)) (wide 1 b) (drop_low NotAKnot (omega arith) b e)
        (interior 0 b)
    first_of (FirstDerivative v) b e =
        lower_clamp_of (h 0) (Steps.s A x y 0) (t 0) (t 1) v (sym (Knots.slope_at_lower_knot A F x y t 0 (wide 0 b)) ∙ e)
    first_of (SecondDerivative v) b e =
        lower_alone_of (t 0) (t 1) v (sym (Knots.second_at_lower_knot A F x y t 0 (wide 0 b)) ∙ e)

    last_of : (upper : End Number) → dropped upper < n → UpperEnd A x y n t upper → (p q : ℕ) → p ≡ n - dropped upper - 1
        → q ≡ n - dropped upper →
        (Moments.upper_row A x y n upper).neighbour ⊗ t p ⊕ (Moments.upper_row A x y n upper).diagonal ⊗ t q
        ≡ (Moments.upper_row A x y n upper).right
    unfolding Moments.upper_row
    last_of NotAKnot b e p q i j =
        let i' : p ≡ n - 2 = omega arith in
        ap₂ (λ p q. (h (n - 2) ⊗ h (n - 2) ⊖ h (n - 1) ⊗ h (n - 1)) ⊗ t p ⊕ (h (n - 2) ⊕ h (n - 1)) ⊗ (two ⊗ h (n - 2) ⊕ h (n - 1)) ⊗ t q)
        i' j
        ∙ upper_row_of (h (n - 2)) (h (n - 1)) (t (n - 2)) (t (n - 1)) (t n) (Steps.u A x y (n - 2)) (wide (n - 2) (omega arith))
        (wide (n - 1) (omega arith))
        (drop_high NotAKnot (omega arith) b e) (interior_top b)
    last_of (FirstDerivative v) b e p q i j =
        let i' : p ≡ n - 1 = omega arith in
        let j' : q ≡ n - 1 + 1 = omega arith in
        let k : n - 1 + 1 ≡ n = omega arith in
        ap₂ (λ p q. h (n - 1) ⊗ t p ⊕ two ⊗ h (n - 1) ⊗ t q) i' j'
        ∙ upper_clamp_of (h (n - 1)) (Steps.s A x y (n - 1)) (t (n - 1)) (t (n - 1 + 1)) v
        (sym (Knots.slope_at_upper_knot A F x y t (n - 1) (wide (n - 1) (omega arith))) ∙ ap
        (λ i. slope_in_cell A x y t (n - 1) (x i)) k ∙ e)
    last_of (SecondDerivative v) b e p q i j =
        let j' : q ≡ n - 1 + 1 = omega arith in
        let k : n - 1 + 1 ≡ n = omega arith in
        ap (λ q. nought ⊗ t p ⊕ one ⊗ t q) j'
        ∙ upper_alone_of (t p) (t (n - 1 + 1)) v
        (sym (Knots.second_at_upper_knot A F x y t (n - 1) (wide (n - 1) (omega arith))) ∙ ap
        (λ i. second_in_cell A x y t (n - 1) (x i)) k ∙ e)

    module _ (lower upper : End Number) (enough : dropped lower + dropped upper < n) (low : LowerEnd A x y n t lower)
        (high : UpperEnd A x y n t upper) where
      abbrev l : ℕ
      l = n - dropped lower - dropped upper - 1

      -- the moments that stand in the rows
      abbrev r : ℕ → Number
      r j = t (dropped lower + j)

      solved : Solves A (Moments.sub A x y n lower upper) (Moments.diag A x y n lower upper) (Moments.sup A x y n lower upper)
          (Moments.rhs A x y n lower upper) l r
      solved =
          record {
            first =
                ap₂ ◌⊕◌
                (ap₂ ◌⊗◌ (Ends.diag_first A F O x y n rising lower upper enough) (ap t (omega arith)))
                (ap₂ ◌⊗◌ (Ends.sup_first A F O x y n rising lower upper enough) refl)
                ∙ first_of lower (omega arith) low
                ∙ sym (Ends.rhs_first A F O x y n rising lower upper enough);
            middle = λ j b.
                ap₂ ◌⊕◌
                (ap₂ ◌⊕◌
                (ap (λ z. z ⊗ r j) (Ends.sub_middle A F O x y n rising lower upper enough j b))
                (ap₂ ◌⊗◌ (Ends.diag_middle A F O x y n rising lower upper enough j b) (ap t (omega arith))))
                (ap₂ ◌⊗◌ (Ends.sup_middle A F O x y n rising lower upper enough j) (ap t (omega arith)))
                ∙ interior (dropped lower + j) (omega arith)
                ∙ sym (Ends.rhs_middle A F O x y n rising lower upper enough j b);
            last =
                ap₂ ◌⊕◌
                (ap (λ z. z ⊗ r l) (Ends.sub_last A F O x y n rising lower upper enough))
                (ap (λ z. z ⊗ r (suc l)) (Ends.diag_last A F O x y n rising lower upper enough))
                ∙ last_of upper (omega arith) high (dropped lower + l) (dropped lower + suc l) (omega arith) (omega arith)
                ∙ sym (Ends.rhs_last A F O x y n rising lower upper enough);
          }

      abbrev m : ℕ → Number
      m = Moments.moment A x y n (Endpoints lower upper)

      row_only : (j : ℕ) → j ≤ suc l → r j ≡ Moments.inner A x y n lower upper j
      unfolding Moments.inner
      row_only j b =
          Thomas.thomas_only A F (Moments.sub A x y n lower upper) (Moments.diag A x y n lower upper) (Moments.sup A x y n lower upper)
          (Moments.rhs A x y n lower upper) l
          (Ends.pivots A F O x y n rising lower upper enough) r solved j b
          ∙ ap
          (λ a. Solve.thomas A (Moments.sub A x y n lower upper) (Moments.diag A x y n lower upper) (Moments.sup A x y n lower upper)
          (Moments.rhs A x y n lower upper) a j)
          (sym (Ends.last_is A F O x y n rising lower upper enough))

      inside_only : (k : ℕ) → dropped lower ≤ k → k + dropped upper ≤ n → t k ≡ m k
      inside_only k b c =
          let e : k ≡ dropped lower + (k - dropped lower) = omega arith in
          ap t e ∙ row_only (k - dropped lower) (omega arith) ∙ sym (Ends.moment_is A F O x y n rising lower upper enough k b c)

    at_most : (e : End Number) → dropped e ≤ 1
    at_most NotAKnot = omega arith
    at_most (FirstDerivative v) = omega arith
    at_most (SecondDerivative v) = omega arith

    first_only : (lower upper : End Number) → dropped lower + dropped upper < n → LowerEnd A x y n t lower → UpperEnd A x y n t upper
        → 0 < dropped lower
        → t 0 ≡ Moments.moment A x y n (Endpoints lower upper) 0
    first_only NotAKnot upper enough low high d =
        drop_low NotAKnot d (omega arith) low
        ∙ ap₂ (λ p q. ((h 0 ⊕ h 1) ⊗ p ⊖ h 0 ⊗ q) ⊘ h 1)
        (inside_only NotAKnot upper enough low high 1 (omega arith) (omega arith))
        (inside_only NotAKnot upper enough low high 2 (omega arith) (omega arith))
        ∙ sym (Ends.drop_first A F O x y n rising upper enough)
    first_only (FirstDerivative v) upper enough low high d = let z : ⊥ = omega arith in absurd z
    first_only (SecondDerivative v) upper enough low high d = let z : ⊥ = omega arith in absurd z

    final_only : (lower upper : End Number) → dropped lower + dropped upper < n → LowerEnd A x y n t lower → UpperEnd A x y n t upper
        → 0 < dropped upper
        → t n ≡ Moments.moment A x y n (Endpoints lower upper) n
    final_only lower NotAKnot enough low high d =
        drop_high NotAKnot d (omega arith) high
        ∙ ap₂ (λ p q. ((h (n - 2) ⊕ h (n - 1)) ⊗ p ⊖ h (n - 1) ⊗ q) ⊘ h (n - 2))
        (inside_only lower NotAKnot enough low high (n - 1) (omega arith) (omega arith))
        (inside_only lower NotAKnot enough low high (n - 2) (omega arith) (omega arith))
        ∙ sym (Ends.drop_last A F O x y n rising lower enough)
    final_only lower (FirstDerivative v) enough low high d = let z : ⊥ = omega arith in absurd z
    final_only lower (SecondDerivative v) enough low high d = let z : ⊥ = omega arith in absurd z

    pub endpoints_only : (lower upper : End Number) → dropped lower + dropped upper < n → LowerEnd A x y n t lower
        → UpperEnd A x y n t upper
        → (k : ℕ) → k ≤ n → t k ≡ Moments.moment A x y n (Endpoints lower upper) k
    endpoints_only lower upper enough low high k b = go (dec_lt k (dropped lower)) (dec_lt n (k + dropped upper))
      where
        go : Dec (k < dropped lower) → Dec (n < k + dropped upper) → t k ≡ Moments.moment A x y n (Endpoints lower upper) k
        go (yes i) j =
            let e : 0 ≡ k = omega (arith, at_most lower) in
            subst (λ k. t k ≡ Moments.moment A x y n (Endpoints lower upper) k) e (first_only lower upper enough low high (omega arith))
        go (no i) (yes j) =
            let e : n ≡ k = omega (arith, at_most upper) in
            subst (λ k. t k ≡ Moments.moment A x y n (Endpoints lower upper) k) e (final_only lower upper enough low high (omega arith))
        go (no i) (no j) = inside_only lower upper enough low high k (omega arith) (omega arith)
