-- Any cubics in the cells that make a spline under the condition are, in value, the curve of the rules.
use mathlib.Core.Path.{◌≡◌, sym, ◌∙◌, ap, ap₂}
use mathlib.Core.Bool.{cond}
use mathlib.Core.List.{[], ◌∷◌}
use Prim.Native.Nat.{ℕ, ◌+◌, ◌-◌, ◌<◌, ◌≤◌}
use native.Mathlib.Decide.{dec_lt}
use native.Mathlib.Omega.{arith}
use lib.Dec.{ltb}
use borrow.Author.Tests.{lt-ltb, le-ltb}
use Rattle.exact_arithmetic.specs.Arithmetic.{Arithmetic, IsField, IsOrdered}
use Rattle.exact_solver.specs.Expressions.{Term, var, t0, t6, mul, terms}
use Rattle.exact_solver.proofs.Solver.{solve}
use Rattle.exact_arithmetic.proofs.FieldLaws as Laws
use Rattle.exact_spline.specs.Steps as Steps
use Rattle.exact_spline.specs.Ends.{
  End,
  NotAKnot,
  FirstDerivative,
  SecondDerivative,
  Condition,
  Endpoints,
  Periodic,
  fewest_points,
  dropped,
}
use Rattle.exact_spline.specs.Moments.{moment}
use Rattle.exact_spline.specs.Curve.{curve_in_cell, cubic}
use Rattle.exact_spline.specs.Derivatives.{slope_in_cell, second_in_cell, third_in_cell, bend, twist}
use Rattle.exact_spline.specs.Derivatives as D
use Rattle.exact_spline.specs.Spline.{IsSpline, LowerEnd, UpperEnd, EndsHold}
use Rattle.exact_spline.specs.Pieces as P
use Rattle.exact_spline.specs.Pieces.{polynomial, first_derivative, second_derivative, IsCubicSpline}
use Rattle.exact_spline.proofs.Tests.{cond_true, cond_false}
use Rattle.exact_spline.proofs.TheSpline.{moments_are_the_only_spline}

module _ (A : Arithmetic) (F : IsField A) where
  infixl 60 ◌⊕◌
  infixl 60 ◌⊖◌
  infixl 70 ◌⊗◌
  infixl 70 ◌⊘◌
  open A use {Number, nought, one, two, three, six, plus as ◌⊕◌, minus as ◌⊖◌, times as ◌⊗◌, over as ◌⊘◌}

  module _ (w a b c d : Number) (wide : ¬ (w ≡ nought)) where
    abbrev top : Number
    top = polynomial A a b c d w

    abbrev top_term : Term
    top_term = polynomial terms (var 1) (var 2) (var 3) (var 4) (var 0)

    abbrev m0_term : Term
    m0_term = second_derivative terms (var 3) (var 4) t0

    abbrev m1_term : Term
    m1_term = second_derivative terms (var 3) (var 4) (var 0)

    value_is : (t : Number)
        → polynomial A a b c d t
        ≡ cubic A w (polynomial A a b c d nought) top (second_derivative A c d nought) (second_derivative A c d w) t
    value_is t =
        solve A F 1 (w ∷ a ∷ b ∷ c ∷ d ∷ t ∷ []) (wide, tt) (polynomial terms (var 1) (var 2) (var 3) (var 4) (var 5))
        (cubic terms (var 0) (polynomial terms (var 1) (var 2) (var 3) (var 4) t0) top_term m0_term m1_term (var 5)) tt tt tt

    slope_is : (t : Number)
        → first_derivative A b c d t
        ≡ D.slope A w (polynomial A a b c d nought) top (second_derivative A c d nought) (second_derivative A c d w) t
    slope_is t =
        solve A F 1 (w ∷ a ∷ b ∷ c ∷ d ∷ t ∷ []) (wide, tt) (first_derivative terms (var 2) (var 3) (var 4) (var 5))
        (D.slope terms (var 0) (polynomial terms (var 1) (var 2) (var 3) (var 4) t0) top_term m0_term m1_term (var 5)) tt tt tt

    second_is : (t : Number) → second_derivative A c d t ≡ bend A w (second_derivative A c d nought) (second_derivative A c d w) t
    second_is t =
        solve A F 1 (w ∷ a ∷ b ∷ c ∷ d ∷ t ∷ []) (wide, tt) (second_derivative terms (var 3) (var 4) (var 5))
        (bend terms (var 0) m0_term m1_term (var 5)) tt tt tt

    third_is : six ⊗ d ≡ twist A w (second_derivative A c d nought) (second_derivative A c d w)
    third_is = solve A F 1 (w ∷ a ∷ b ∷ c ∷ d ∷ []) (wide, tt) (mul t6 (var 4)) (twist terms (var 0) m0_term m1_term) tt tt tt

  module _ (O : IsOrdered A) (x y : ℕ → Number) (n : ℕ) (rising : (i : ℕ) → i < n → O.Positive (Steps.h A x i))
      (condition : Condition Number) (enough : fewest_points condition ≤ n + 1)
      (c0 c1 c2 c3 : ℕ → Number) (spline : IsCubicSpline A x y n c0 c1 c2 c3 condition) where
    abbrev h : ℕ → Number
    h = Steps.h A x

    wide : (i : ℕ) → i < n → ¬ (h i ≡ nought)
    wide i b = O.positive_not_nought _ (rising i b)

    abbrev value : ℕ → Number → Number
    value = P.value A x y n c0 c1 c2 c3

    abbrev slope : ℕ → Number → Number
    slope = P.slope A x y n c0 c1 c2 c3

    abbrev second : ℕ → Number → Number
    second = P.second A x y n c0 c1 c2 c3

    -- the second derivatives at the knots
    unfoldable m : ℕ → Number
    m k = cond (ltb k n) (second k (x k)) (second (n - 1) (x n))

    m_lower : (i : ℕ) → i < n → m i ≡ second i (x i)
    unfolding m
    m_lower i b = cond_true (ltb i n) _ _ (lt-ltb i n b)

    m_upper : (i : ℕ) → i < n → m (i + 1) ≡ second i (x (i + 1))
    unfolding m
    m_upper i b = go (dec_lt (i + 1) n)
      where
        go : Dec (i + 1 < n) → m (i + 1) ≡ second i (x (i + 1))
        go (yes k) = m_lower (i + 1) k ∙ sym (spline.seconds_meet i k)
        go (no k) =
            let e : n - 1 ≡ i = omega arith in
            let f : n ≡ i + 1 = omega arith in
            cond_false (ltb (i + 1) n) _ _ (le-ltb (i + 1) n (omega arith)) ∙ ap₂ (λ j k. second j (x k)) e f

    start : (i : ℕ) → x i ⊖ x i ≡ nought
    start i = Laws.minus_self A F (x i)

    m0 : (i : ℕ) → i < n → second_derivative A (c2 i) (c3 i) nought ≡ m i
    m0 i b = ap (second_derivative A (c2 i) (c3 i)) (sym (start i)) ∙ sym (m_lower i b)

    m1 : (i : ℕ) → i < n → second_derivative A (c2 i) (c3 i) (h i) ≡ m (i + 1)
    unfolding Steps.h
    m1 i b = sym (m_upper i b)

    y0 : (i : ℕ) → i < n → polynomial A (c0 i) (c1 i) (c2 i) (c3 i) nought ≡ y i
    y0 i b = ap (polynomial A (c0 i) (c1 i) (c2 i) (c3 i)) (sym (start i)) ∙ spline.lower_sample i b

    y1 : (i : ℕ) → i < n → polynomial A (c0 i) (c1 i) (c2 i) (c3 i) (h i) ≡ y (i + 1)
    unfolding Steps.h
    y1 i b = spline.upper_sample i b

    value_same : (i : ℕ) → i < n → (point : Number) → value i point ≡ curve_in_cell A x y m i point
    unfolding curve_in_cell
    value_same i b point =
        value_is (h i) (c0 i) (c1 i) (c2 i) (c3 i) (wide i b) (point ⊖ x i)
        ∙ ap₂ (λ p q. cubic A (h i) p q (second_derivative A (c2 i) (c3 i) nought) (second_derivative A (c2 i) (c3 i) (h i)) (point ⊖ x i))
        (y0 i b) (y1 i b)
        ∙ ap₂ (λ p q. cubic A (h i) (y i) (y (i + 1)) p q (point ⊖ x i)) (m0 i b) (m1 i b)

    slope_same : (i : ℕ) → i < n → (point : Number) → slope i point ≡ slope_in_cell A x y m i point
    unfolding slope_in_cell
    slope_same i b point =
        slope_is (h i) (c0 i) (c1 i) (c2 i) (c3 i) (wide i b) (point ⊖ x i)
        ∙ ap₂ (λ p q. D.slope A (h i) p q (second_derivative A (c2 i) (c3 i) nought) (second_derivative A (c2 i) (c3 i) (h i))
        (point ⊖ x i)) (y0 i b) (y1 i b)
        ∙ ap₂ (λ p q. D.slope A (h i) (y i) (y (i + 1)) p q (point ⊖ x i)) (m0 i b) (m1 i b)

    second_same : (i : ℕ) → i < n → (point : Number) → second i point ≡ second_in_cell A x y m i point
    unfolding second_in_cell
    second_same i b point =
        second_is (h i) (c0 i) (c1 i) (c2 i) (c3 i) (wide i b) (point ⊖ x i)
        ∙ ap₂ (λ p q. bend A (h i) p q (point ⊖ x i)) (m0 i b) (m1 i b)

    third_same : (i : ℕ) → i < n → six ⊗ c3 i ≡ third_in_cell A x y m i
    unfolding third_in_cell
    third_same i b = third_is (h i) (c0 i) (c1 i) (c2 i) (c3 i) (wide i b) ∙ ap₂ (λ p q. twist A (h i) p q) (m0 i b) (m1 i b)

    is_spline : IsSpline A x y n m
    is_spline =
        record {
          lower_sample = λ i b. sym (value_same i b (x i)) ∙ spline.lower_sample i b;
          upper_sample = λ i b. sym (value_same i b (x (i + 1))) ∙ spline.upper_sample i b;
          slopes_meet = λ i b. sym (slope_same i (omega arith) (x (i + 1))) ∙ spline.slopes_meet i b ∙ slope_same (i + 1) b (x (i + 1));
          seconds_meet =
              λ i b. sym (second_same i (omega arith) (x (i + 1))) ∙ spline.seconds_meet i b ∙ second_same (i + 1) b (x (i + 1));
        }

    lower_holds : (e : End Number) → dropped e < n → P.LowerHolds A x y n c0 c1 c2 c3 e → LowerEnd A x y n m e
    lower_holds NotAKnot b e = sym (third_same 0 (omega arith)) ∙ e ∙ third_same 1 b
    lower_holds (FirstDerivative v) b e = sym (slope_same 0 b (x 0)) ∙ e
    lower_holds (SecondDerivative v) b e = sym (second_same 0 b (x 0)) ∙ e

    upper_holds : (e : End Number) → dropped e < n → P.UpperHolds A x y n c0 c1 c2 c3 e → UpperEnd A x y n m e
    upper_holds NotAKnot b e = sym (third_same (n - 2) (omega arith)) ∙ e ∙ third_same (n - 1) (omega arith)
    upper_holds (FirstDerivative v) b e = sym (slope_same (n - 1) (omega arith) (x n)) ∙ e
    upper_holds (SecondDerivative v) b e = sym (second_same (n - 1) (omega arith) (x n)) ∙ e

    holds : (c : Condition Number) → fewest_points c ≤ n + 1 → P.Holds A x y n c0 c1 c2 c3 c → EndsHold A x y n m c
    holds (Endpoints lower upper) b e = (lower_holds lower (omega arith) e.0, upper_holds upper (omega arith) e.1)
    holds Periodic b e =
        record {
          slopes_close = sym (slope_same (n - 1) (omega arith) (x n)) ∙ e.0 ∙ slope_same 0 (omega arith) (x 0);
          seconds_close = sym (second_same (n - 1) (omega arith) (x n)) ∙ e.1 ∙ second_same 0 (omega arith) (x 0);
        }

    -- it is the curve of the rules, in every cell and at every point
    pub every_cubic_spline_is_the_rules : (i : ℕ) → i < n → (point : Number)
        → value i point ≡ curve_in_cell A x y (moment A x y n condition) i point
    unfolding curve_in_cell
    every_cubic_spline_is_the_rules i b point =
        value_same i b point
        ∙ ap₂ (λ p q. cubic A (h i) (y i) (y (i + 1)) p q (point ⊖ x i)) (only i (omega arith)) (only (i + 1) (omega arith))
      where
        only : (k : ℕ) → k ≤ n → m k ≡ moment A x y n condition k
        only =
            moments_are_the_only_spline A F O x y n rising condition enough m
            (record { spline = is_spline; ends = holds condition enough spline.ends })
