-- A cubic comes back: from its own samples, with ends that are its own, the rules give it in every cell.
use mathlib.Core.Path.{◌≡◌, refl, sym, ◌∙◌}
use mathlib.Core.List.{List, [], ◌∷◌}
use Prim.Native.Nat.{ℕ, ◌+◌, ◌-◌, ◌<◌, ◌≤◌}
use Rattle.exact_arithmetic.specs.Arithmetic.{Arithmetic, IsField, IsOrdered}
use Rattle.exact_solver.specs.Expressions.{Term, var, t3, add, sub, mul, terms}
use Rattle.exact_solver.proofs.Solver.{solve}
use Rattle.exact_spline.specs.Steps as Steps
use Rattle.exact_spline.specs.Ends.{End, NotAKnot, FirstDerivative, SecondDerivative, Endpoints, fewest_points}
use Rattle.exact_spline.specs.Moments.{moment}
use Rattle.exact_spline.specs.Curve.{curve_in_cell}
use Rattle.exact_spline.specs.Pieces as P
use Rattle.exact_spline.specs.Pieces.{polynomial, first_derivative, second_derivative}
use Rattle.exact_spline.proofs.AnyCubicSpline.{every_cubic_spline_is_the_rules}

module _ (A : Arithmetic) (F : IsField A) (O : IsOrdered A) where
  infixl 60 ◌⊕◌
  infixl 60 ◌⊖◌
  infixl 70 ◌⊗◌
  infixl 70 ◌⊘◌
  open A use {Number, two, three, six, plus as ◌⊕◌, minus as ◌⊖◌, times as ◌⊗◌, over as ◌⊘◌}

  module _ (a b c d : Number) where
    abbrev p : Number → Number
    p t = polynomial A a b c d t

    -- the coefficients of the same cubic around t
    abbrev q1 : Number → Number
    q1 t = first_derivative A b c d t

    abbrev q2 : Number → Number
    q2 t = c ⊕ three ⊗ d ⊗ t

    abbrev p_term : Term → Term
    p_term t = polynomial terms (var 0) (var 1) (var 2) (var 3) t

    abbrev q1_term : Term → Term
    q1_term t = first_derivative terms (var 1) (var 2) (var 3) t

    abbrev q2_term : Term → Term
    q2_term t = add (var 2) (mul (mul t3 (var 3)) t)

    abbrev env : Number → Number → List Number
    env t u = a ∷ b ∷ c ∷ d ∷ t ∷ u ∷ []

    value_around : (t u : Number) → polynomial A (p t) (q1 t) (q2 t) d (u ⊖ t) ≡ p u
    value_around t u =
        solve A F 0 (env t u) tt (polynomial terms (p_term (var 4)) (q1_term (var 4)) (q2_term (var 4)) (var 3) (sub (var 5) (var 4)))
        (p_term (var 5)) tt tt tt

    slope_around : (t u : Number) → first_derivative A (q1 t) (q2 t) d (u ⊖ t) ≡ q1 u
    slope_around t u =
        solve A F 0 (env t u) tt (first_derivative terms (q1_term (var 4)) (q2_term (var 4)) (var 3) (sub (var 5) (var 4)))
        (q1_term (var 5)) tt tt tt

    second_around : (t u : Number) → second_derivative A (q2 t) d (u ⊖ t) ≡ second_derivative A c d u
    second_around t u =
        solve A F 0 (env t u) tt (second_derivative terms (q2_term (var 4)) (var 3) (sub (var 5) (var 4)))
        (second_derivative terms (var 2) (var 3) (var 5)) tt tt tt

    -- an end that is the cubic's own at a knot t
    abbrev pub Own : Number → End Number → Type 0
    Own t NotAKnot = Unit {0}
    Own t (FirstDerivative v) = first_derivative A b c d t ≡ v
    Own t (SecondDerivative v) = second_derivative A c d t ≡ v

    module _ (x : ℕ → Number) (n : ℕ) (rising : (i : ℕ) → i < n → O.Positive (Steps.h A x i)) (lower upper : End Number)
        (enough : fewest_points (Endpoints lower upper) ≤ n + 1) where
      lower_own : (e : End Number) → Own (x 0) e
          → P.LowerHolds A x (λ i. p (x i)) n (λ i. p (x i)) (λ i. q1 (x i)) (λ i. q2 (x i)) (λ i. d) e
      lower_own NotAKnot h = refl
      lower_own (FirstDerivative v) h = slope_around (x 0) (x 0) ∙ h
      lower_own (SecondDerivative v) h = second_around (x 0) (x 0) ∙ h

      upper_own : (e : End Number) → Own (x n) e
          → P.UpperHolds A x (λ i. p (x i)) n (λ i. p (x i)) (λ i. q1 (x i)) (λ i. q2 (x i)) (λ i. d) e
      upper_own NotAKnot h = refl
      upper_own (FirstDerivative v) h = slope_around (x (n - 1)) (x n) ∙ h
      upper_own (SecondDerivative v) h = second_around (x (n - 1)) (x n) ∙ h

      pub cubics_come_back : Own (x 0) lower → Own (x n) upper → (i : ℕ) → i < n → (point : Number)
          → curve_in_cell A x (λ i. p (x i)) (moment A x (λ i. p (x i)) n (Endpoints lower upper)) i point ≡ p point
      cubics_come_back low high i h point =
          sym
          (every_cubic_spline_is_the_rules A F O x (λ i. p (x i)) n rising (Endpoints lower upper) enough (λ i. p (x i)) (λ i. q1 (x i))
          (λ i. q2 (x i)) (λ i. d)
          (record {
            lower_sample = λ i h. value_around (x i) (x i);
            upper_sample = λ i h. value_around (x i) (x (i + 1));
            slopes_meet = λ i h. slope_around (x i) (x (i + 1)) ∙ sym (slope_around (x (i + 1)) (x (i + 1)));
            seconds_meet = λ i h. second_around (x i) (x (i + 1)) ∙ sym (second_around (x (i + 1)) (x (i + 1)));
            ends = (lower_own lower low, upper_own upper high);
          })
          i h point)
          ∙ value_around (x i) point
