-- Splines mix: where each sample of one spline is the same mixture of the samples of four others, so is each of its knot slopes.
use mathlib.Core.Path.{◌≡◌, refl, sym, ◌∙◌, ap, ap₂, subst}
use mathlib.Core.List.{List, [], ◌∷◌}
use Prim.Native.Nat.{ℕ, ◌+◌, ◌-◌, ◌<◌, ◌≤◌}
use native.Mathlib.Decide.{dec_lt}
use native.Mathlib.Omega.{arith}
use lib.Dec.{ltb}
use borrow.Author.Tests.{lt-ltb, le-ltb}
use Rattle.exact_arithmetic.specs.Arithmetic.{Arithmetic, IsField, IsOrdered}
use Rattle.exact_solver.specs.Expressions.{Term, var, t0, t1, t2, t6, add, sub, mul, div, neg, terms}
use Rattle.exact_solver.proofs.Solver.{solve}
use Rattle.exact_spline.specs.Steps as Steps
use Rattle.exact_spline.specs.Ends.{
  End,
  NotAKnot,
  FirstDerivative,
  SecondDerivative,
  Condition,
  Endpoints,
  Periodic,
  fewest_points,
  dropped,
  zero_valued,
  crossed,
}
use Rattle.exact_spline.specs.Moments.{moment, moments}
use Rattle.exact_spline.specs.Curve.{knot_slope, lower_slope, upper_slope, lane_slope}
use Rattle.exact_spline.specs.Derivatives.{slope_in_cell, second_in_cell, third_in_cell, slope, bend, twist}
use Rattle.exact_spline.specs.Spline.{IsSplineUnder, LowerEnd, UpperEnd, EndsHold}
use Rattle.exact_spline.specs.Numbers.{at}
use Rattle.rules.specs.Numbers.{table}
use Rattle.rules.proofs.Tables.{at_table}
use Rattle.exact_spline.proofs.OneAxis as OneAxis
use Rattle.exact_spline.proofs.Knots as Knots
use Rattle.exact_spline.proofs.Tests.{cond_true, cond_false}
use Rattle.exact_spline.proofs.TheSpline.{moments_are_a_spline, moments_are_the_only_spline}

module _ (A : Arithmetic) (F : IsField A) where
  infixl 60 ◌⊕◌
  infixl 60 ◌⊖◌
  infixl 70 ◌⊗◌
  infixl 70 ◌⊘◌
  open A use {Number, nought, one, two, three, six, plus as ◌⊕◌, minus as ◌⊖◌, times as ◌⊗◌, over as ◌⊘◌, negative as ~}

  abbrev pub mix : Number → Number → Number → Number → Number → Number → Number → Number → Number
  mix a b c d p q r s = a ⊗ p ⊕ b ⊗ q ⊕ c ⊗ r ⊕ d ⊗ s

  abbrev mix_term : Term → Term → Term → Term → Term → Term → Term → Term → Term
  mix_term a b c d p q r s = add (add (add (mul a p) (mul b q)) (mul c r)) (mul d s)

  -- a mixture of mixtures
  pub exchange : (a b c d e f g h p0 p1 p2 p3 q0 q1 q2 q3 r0 r1 r2 r3 s0 s1 s2 s3 : Number)
      → mix a b c d (mix e f g h p0 p1 p2 p3) (mix e f g h q0 q1 q2 q3) (mix e f g h r0 r1 r2 r3) (mix e f g h s0 s1 s2 s3)
      ≡ mix e f g h (mix a b c d p0 q0 r0 s0) (mix a b c d p1 q1 r1 s1) (mix a b c d p2 q2 r2 s2) (mix a b c d p3 q3 r3 s3)
  exchange a b c d e f g h p0 p1 p2 p3 q0 q1 q2 q3 r0 r1 r2 r3 s0 s1 s2 s3 =
      solve A F 0 (a ∷ b ∷ c ∷ d ∷ e ∷ f ∷ g ∷ h ∷ p0 ∷ p1 ∷ p2 ∷ p3 ∷ q0 ∷ q1 ∷ q2 ∷ q3 ∷ r0 ∷ r1 ∷ r2 ∷ r3 ∷ s0 ∷ s1 ∷ s2 ∷ s3 ∷ []) tt
      (outer (inner 8 9 10 11) (inner 12 13 14 15) (inner 16 17 18 19) (inner 20 21 22 23))
      (mix_term (var 4) (var 5) (var 6) (var 7)
      (outer (var 8) (var 12) (var 16) (var 20)) (outer (var 9) (var 13) (var 17) (var 21)) (outer (var 10) (var 14) (var 18) (var 22))
      (outer (var 11) (var 15) (var 19) (var 23)))
      tt tt tt
    where
      outer : Term → Term → Term → Term → Term
      outer = mix_term (var 0) (var 1) (var 2) (var 3)

      inner : ℕ → ℕ → ℕ → ℕ → Term
      inner i j k l = mix_term (var 4) (var 5) (var 6) (var 7) (var i) (var j) (var k) (var l)

  -- the derivatives of a cell are mixtures of its samples and moments
  module _ (w t : Number) (wide : ¬ (w ≡ nought)) where
    abbrev pub s0 : Number
    s0 = ~ one ⊘ w

    abbrev pub s1 : Number
    s1 = one ⊘ w

    abbrev pub s2 : Number
    s2 = w ⊘ six ⊖ (w ⊖ t) ⊗ (w ⊖ t) ⊘ (two ⊗ w)

    abbrev pub s3 : Number
    s3 = t ⊗ t ⊘ (two ⊗ w) ⊖ w ⊘ six

    pub slope_mix : (y0 y1 m0 m1 : Number) → slope A w y0 y1 m0 m1 t ≡ mix s0 s1 s2 s3 y0 y1 m0 m1
    slope_mix y0 y1 m0 m1 =
        solve A F 1 (w ∷ t ∷ y0 ∷ y1 ∷ m0 ∷ m1 ∷ []) (wide, tt) (slope terms (var 0) (var 2) (var 3) (var 4) (var 5) (var 1))
        (mix_term (div (neg t1) (var 0)) (div t1 (var 0))
        (sub (div (var 0) t6) (div (mul (sub (var 0) (var 1)) (sub (var 0) (var 1))) (mul t2 (var 0))))
        (sub (div (mul (var 1) (var 1)) (mul t2 (var 0))) (div (var 0) t6))
        (var 2) (var 3) (var 4) (var 5))
        tt tt tt

    pub bend_mix : (y0 y1 m0 m1 : Number) → bend A w m0 m1 t ≡ mix nought nought ((w ⊖ t) ⊘ w) (t ⊘ w) y0 y1 m0 m1
    bend_mix y0 y1 m0 m1 =
        solve A F 1 (w ∷ t ∷ y0 ∷ y1 ∷ m0 ∷ m1 ∷ []) (wide, tt) (bend terms (var 0) (var 4) (var 5) (var 1))
        (mix_term t0 t0 (div (sub (var 0) (var 1)) (var 0)) (div (var 1) (var 0)) (var 2) (var 3) (var 4) (var 5))
        tt tt tt

    pub twist_mix : (y0 y1 m0 m1 : Number) → twist A w m0 m1 ≡ mix nought nought (~ one ⊘ w) (one ⊘ w) y0 y1 m0 m1
    twist_mix y0 y1 m0 m1 =
        solve A F 1 (w ∷ t ∷ y0 ∷ y1 ∷ m0 ∷ m1 ∷ []) (wide, tt) (twist terms (var 0) (var 4) (var 5))
        (mix_term t0 t0 (div (neg t1) (var 0)) (div t1 (var 0)) (var 2) (var 3) (var 4) (var 5))
        tt tt tt

  pub mix_ap : (a b c d : Number) {p p' q q' r r' s s' : Number} → p ≡ p' → q ≡ q' → r ≡ r' → s ≡ s'
      → mix a b c d p q r s ≡ mix a b c d p' q' r' s'
  mix_ap a b c d e f g h = λ i. mix a b c d (e i) (f i) (g i) (h i)

  -- weights of which the first and the third make one
  mix_given : (a b c d v : Number) → a ⊕ c ≡ one → mix a b c d v nought v nought ≡ v
  mix_given a b c d v e =
      solve A F 0 (a ∷ b ∷ c ∷ d ∷ v ∷ []) tt (mix_term (var 0) (var 1) (var 2) (var 3) (var 4) t0 (var 4) t0)
      (mul (add (var 0) (var 2)) (var 4)) tt tt tt
      ∙ ap (λ z. z ⊗ v) e
      ∙ solve A F 0 (v ∷ []) tt (mul t1 (var 0)) (var 0) tt tt tt

  dropped_same : (e : End Number) → dropped (zero_valued A e) ≡ dropped e
  dropped_same NotAKnot = refl
  dropped_same (FirstDerivative v) = refl
  dropped_same (SecondDerivative v) = refl

  pub fewest_same : (c : Condition Number) → fewest_points (crossed A c) ≡ fewest_points c
  fewest_same (Endpoints lower upper) = ap₂ (λ i j. 2 + i + j) (dropped_same lower) (dropped_same upper)
  fewest_same Periodic = refl

  module _ (O : IsOrdered A) (x : ℕ → Number) (n : ℕ) (rising : (i : ℕ) → i < n → O.Positive (Steps.h A x i)) (a b c d : Number)
      (unity : a ⊕ c ≡ one)
      (y0 z0 y1 z1 m0 k0 m1 k1 : ℕ → Number) where
    abbrev y : ℕ → Number
    y i = mix a b c d (y0 i) (z0 i) (y1 i) (z1 i)

    abbrev m : ℕ → Number
    m i = mix a b c d (m0 i) (k0 i) (m1 i) (k1 i)

    wide : (i : ℕ) → i < n → ¬ (Steps.h A x i ≡ nought)
    wide i h = O.positive_not_nought _ (rising i h)

    slope_mixes : (i : ℕ) → i < n → (p : Number) →
        slope_in_cell A x y m i p
        ≡ mix a b c d (slope_in_cell A x y0 m0 i p) (slope_in_cell A x z0 k0 i p) (slope_in_cell A x y1 m1 i p)
        (slope_in_cell A x z1 k1 i p)
    unfolding slope_in_cell
    slope_mixes i h p =
        let w : Number = Steps.h A x i in
        let t : Number = p ⊖ x i in
        slope_mix w t (wide i h) (y i) (y (i + 1)) (m i) (m (i + 1))
        ∙ exchange _ _ _ _ a b c d (y0 i) (z0 i) (y1 i) (z1 i) (y0 (i + 1)) (z0 (i + 1)) (y1 (i + 1)) (z1 (i + 1)) (m0 i) (k0 i) (m1 i)
        (k1 i) (m0 (i + 1)) (k0 (i + 1)) (m1 (i + 1)) (k1 (i + 1))
        ∙ mix_ap a b c d
        (sym (slope_mix w t (wide i h) (y0 i) (y0 (i + 1)) (m0 i) (m0 (i + 1))))
        (sym (slope_mix w t (wide i h) (z0 i) (z0 (i + 1)) (k0 i) (k0 (i + 1))))
        (sym (slope_mix w t (wide i h) (y1 i) (y1 (i + 1)) (m1 i) (m1 (i + 1))))
        (sym (slope_mix w t (wide i h) (z1 i) (z1 (i + 1)) (k1 i) (k1 (i + 1))))

    second_mixes : (i : ℕ) → i < n → (p : Number) →
        second_in_cell A x y m i p
        ≡ mix a b c d (second_in_cell A x y0 m0 i p) (second_in_cell A x z0 k0 i p) (second_in_cell A x y1 m1 i p)
        (second_in_cell A x z1 k1 i p)
    unfolding second_in_cell
    second_mixes i h p =
        let w : Number = Steps.h A x i in
        let t : Number = p ⊖ x i in
        bend_mix w t (wide i h) (y i) (y (i + 1)) (m i) (m (i + 1))
        ∙ exchange _ _ _ _ a b c d (y0 i) (z0 i) (y1 i) (z1 i) (y0 (i + 1)) (z0 (i + 1)) (y1 (i + 1)) (z1 (i + 1)) (m0 i) (k0 i) (m1 i)
        (k1 i) (m0 (i + 1)) (k0 (i + 1)) (m1 (i + 1)) (k1 (i + 1))
        ∙ mix_ap a b c d
        (sym (bend_mix w t (wide i h) (y0 i) (y0 (i + 1)) (m0 i) (m0 (i + 1))))
        (sym (bend_mix w t (wide i h) (z0 i) (z0 (i + 1)) (k0 i) (k0 (i + 1))))
        (sym (bend_mix w t (wide i h) (y1 i) (y1 (i + 1)) (m1 i) (m1 (i + 1))))
        (sym (bend_mix w t (wide i h) (z1 i) (z1 (i + 1)) (k1 i) (k1 (i + 1))))

    third_mixes : (i : ℕ) → i < n →
        third_in_cell A x y m i
        ≡ mix a b c d (third_in_cell A x y0 m0 i) (third_in_cell A x z0 k0 i) (third_in_cell A x y1 m1 i) (third_in_cell A x z1 k1 i)
    unfolding third_in_cell
    third_mixes i h =
        let w : Number = Steps.h A x i in
        twist_mix w nought (wide i h) (y i) (y (i + 1)) (m i) (m (i + 1))
        ∙ exchange _ _ _ _ a b c d (y0 i) (z0 i) (y1 i) (z1 i) (y0 (i + 1)) (z0 (i + 1)) (y1 (i + 1)) (z1 (i + 1)) (m0 i) (k0 i) (m1 i)
        (k1 i) (m0 (i + 1)) (k0 (i + 1)) (m1 (i + 1)) (k1 (i + 1))
        ∙ mix_ap a b c d
        (sym (twist_mix w nought (wide i h) (y0 i) (y0 (i + 1)) (m0 i) (m0 (i + 1))))
        (sym (twist_mix w nought (wide i h) (z0 i) (z0 (i + 1)) (k0 i) (k0 (i + 1))))
        (sym (twist_mix w nought (wide i h) (y1 i) (y1 (i + 1)) (m1 i) (m1 (i + 1))))
        (sym (twist_mix w nought (wide i h) (z1 i) (z1 (i + 1)) (k1 i) (k1 (i + 1))))

    lower_mixes : (e : End Number) → dropped e < n → LowerEnd A x y0 n m0 e → LowerEnd A x z0 n k0 (zero_valued A e)
        → LowerEnd A x y1 n m1 e → LowerEnd A x z1 n k1 (zero_valued A e)
        → LowerEnd A x y n m e
    lower_mixes NotAKnot h p q r s = third_mixes 0 (omega arith) ∙ mix_ap a b c d p q r s ∙ sym (third_mixes 1 h)
    lower_mixes (FirstDerivative v) h p q r s = slope_mixes 0 h (x 0) ∙ mix_ap a b c d p q r s ∙ mix_given a b c d v unity
    lower_mixes (SecondDerivative v) h p q r s = second_mixes 0 h (x 0) ∙ mix_ap a b c d p q r s ∙ mix_given a b c d v unity

    upper_mixes : (e : End Number) → dropped e < n → UpperEnd A x y0 n m0 e → UpperEnd A x z0 n k0 (zero_valued A e)
        → UpperEnd A x y1 n m1 e → UpperEnd A x z1 n k1 (zero_valued A e)
        → UpperEnd A x y n m e
    upper_mixes NotAKnot h p q r s = third_mixes (n - 2) (omega arith) ∙ mix_ap a b c d p q r s ∙ sym (third_mixes (n - 1) (omega arith))
    upper_mixes (FirstDerivative v) h p q r s = slope_mixes (n - 1) (omega arith) (x n) ∙ mix_ap a b c d p q r s ∙ mix_given a b c d v unity
    upper_mixes (SecondDerivative v) h p q r s =
        second_mixes (n - 1) (omega arith) (x n) ∙ mix_ap a b c d p q r s ∙ mix_given a b c d v unity

    ends_mix : (e : Condition Number) → fewest_points e ≤ n + 1 → EndsHold A x y0 n m0 e → EndsHold A x z0 n k0 (crossed A e)
        → EndsHold A x y1 n m1 e → EndsHold A x z1 n k1 (crossed A e)
        → EndsHold A x y n m e
    ends_mix (Endpoints lower upper) h p q r s =
        (lower_mixes lower (omega arith) p.0 q.0 r.0 s.0, upper_mixes upper (omega arith) p.1 q.1 r.1 s.1)
    ends_mix Periodic h p q r s =
        record {
          slopes_close =
              slope_mixes (n - 1) (omega arith) (x n)
              ∙ mix_ap a b c d p.slopes_close q.slopes_close r.slopes_close s.slopes_close
              ∙ sym (slope_mixes 0 (omega arith) (x 0));
          seconds_close =
              second_mixes (n - 1) (omega arith) (x n)
              ∙ mix_ap a b c d p.seconds_close q.seconds_close r.seconds_close s.seconds_close
              ∙ sym (second_mixes 0 (omega arith) (x 0));
        }

    -- a mixture of splines is a spline
    pub mixture : (e : Condition Number) → fewest_points e ≤ n + 1
        → IsSplineUnder A x y0 n m0 e → IsSplineUnder A x z0 n k0 (crossed A e) → IsSplineUnder A x y1 n m1 e
        → IsSplineUnder A x z1 n k1 (crossed A e)
        → IsSplineUnder A x y n m e
    mixture e h p q r s =
        record {
          spline =
              record {
                lower_sample = λ i k. Knots.at_lower_knot A F x y m i (wide i k);
                upper_sample = λ i k. Knots.at_upper_knot A F x y m i (wide i k);
                slopes_meet = λ i k.
                    slope_mixes i (omega arith) (x (i + 1))
                    ∙ mix_ap a b c d (p.spline.slopes_meet i k) (q.spline.slopes_meet i k) (r.spline.slopes_meet i k)
                    (s.spline.slopes_meet i k)
                    ∙ sym (slope_mixes (i + 1) k (x (i + 1)));
                seconds_meet = λ i k. Knots.seconds_always_meet A F x y m i (wide i (omega arith)) (wide (i + 1) k);
              };
          ends = ends_mix e h p.ends q.ends r.ends s.ends;
        }

  -- what a spline is, is a matter of the samples at its knots
  module _ (x : ℕ → Number) (n : ℕ) (wide : (i : ℕ) → i < n → ¬ (Steps.h A x i ≡ nought)) (y y' m : ℕ → Number)
      (same : (k : ℕ) → k ≤ n → y k ≡ y' k) where
    slope_respects : (i : ℕ) → i < n → (p : Number) → slope_in_cell A x y m i p ≡ slope_in_cell A x y' m i p
    unfolding slope_in_cell
    slope_respects i h p =
        ap₂ (λ q r. slope A (Steps.h A x i) q r (m i) (m (i + 1)) (p ⊖ x i)) (same i (omega arith)) (same (i + 1) (omega arith))

    second_respects : (i : ℕ) (p : Number) → second_in_cell A x y m i p ≡ second_in_cell A x y' m i p
    unfolding second_in_cell
    second_respects i p = refl

    third_respects : (i : ℕ) → third_in_cell A x y m i ≡ third_in_cell A x y' m i
    unfolding third_in_cell
    third_respects i = refl

    lower_respects : (e : End Number) → dropped e < n → LowerEnd A x y n m e → LowerEnd A x y' n m e
    lower_respects NotAKnot h p = sym (third_respects 0) ∙ p ∙ third_respects 1
    lower_respects (FirstDerivative v) h p = sym (slope_respects 0 h (x 0)) ∙ p
    lower_respects (SecondDerivative v) h p = sym (second_respects 0 (x 0)) ∙ p

    upper_respects : (e : End Number) → dropped e < n → UpperEnd A x y n m e → UpperEnd A x y' n m e
    upper_respects NotAKnot h p = sym (third_respects (n - 2)) ∙ p ∙ third_respects (n - 1)
    upper_respects (FirstDerivative v) h p = sym (slope_respects (n - 1) (omega arith) (x n)) ∙ p
    upper_respects (SecondDerivative v) h p = sym (second_respects (n - 1) (x n)) ∙ p

    ends_respect : (e : Condition Number) → fewest_points e ≤ n + 1 → EndsHold A x y n m e → EndsHold A x y' n m e
    ends_respect (Endpoints lower upper) h p = (lower_respects lower (omega arith) p.0, upper_respects upper (omega arith) p.1)
    ends_respect Periodic h p =
        record {
          slopes_close = sym (slope_respects (n - 1) (omega arith) (x n)) ∙ p.slopes_close ∙ slope_respects 0 (omega arith) (x 0);
          seconds_close = sym (second_respects (n - 1) (x n)) ∙ p.seconds_close ∙ second_respects 0 (x 0);
        }

    respects : (e : Condition Number) → fewest_points e ≤ n + 1 → IsSplineUnder A x y n m e → IsSplineUnder A x y' n m e
    respects e h p =
        record {
          spline =
              record {
                lower_sample = λ i k. Knots.at_lower_knot A F x y' m i (wide i k);
                upper_sample = λ i k. Knots.at_upper_knot A F x y' m i (wide i k);
                slopes_meet =
                    λ i k. sym (slope_respects i (omega arith) (x (i + 1))) ∙ p.spline.slopes_meet i k
                    ∙ slope_respects (i + 1) k (x (i + 1));
                seconds_meet = λ i k. Knots.seconds_always_meet A F x y' m i (wide i (omega arith)) (wide (i + 1) k);
              };
          ends = ends_respect e h p.ends;
        }

  module _ (O : IsOrdered A) (x : ℕ → Number) (n : ℕ) (rising : (i : ℕ) → i < n → O.Positive (Steps.h A x i)) where
    abbrev moment_of : Condition Number → (ℕ → Number) → ℕ → Number
    moment_of e y = moment A x y n e

    abbrev slope_of : Condition Number → (ℕ → Number) → ℕ → Number
    slope_of e y i = knot_slope A x y (moment_of e y) n i

    steps_wide : (i : ℕ) → i < n → ¬ (Steps.h A x i ≡ nought)
    steps_wide i h = O.positive_not_nought _ (rising i h)

    -- the slope at a knot is that of a cell there: the one after it, and at the last knot the one before it
    slope_of_lower : (e : Condition Number) → fewest_points e ≤ n + 1 → (y : ℕ → Number) (i : ℕ) → i < n
        → slope_of e y i ≡ slope_in_cell A x y (moment_of e y) i (x i)
    slope_of_lower e enough y =
        OneAxis.knot_slope_lower A F x y (moment_of e y) n steps_wide
        (moments_are_a_spline A F O x y n rising e enough).spline.slopes_meet

    slope_of_upper : (e : Condition Number) → fewest_points e ≤ n + 1 → (y : ℕ → Number) (i : ℕ) → i < n
        → slope_of e y (i + 1) ≡ slope_in_cell A x y (moment_of e y) i (x (i + 1))
    slope_of_upper e enough y =
        OneAxis.knot_slope_upper A F x y (moment_of e y) n steps_wide
        (moments_are_a_spline A F O x y n rising e enough).spline.slopes_meet

    module _ (a b c d : Number) (unity : a ⊕ c ≡ one) (e : Condition Number) (enough : fewest_points e ≤ n + 1) (y0 z0 y1 z1 : ℕ → Number)
        (y' : ℕ → Number) (same : (k : ℕ) → k ≤ n → mix a b c d (y0 k) (z0 k) (y1 k) (z1 k) ≡ y' k) where
      enough' : fewest_points (crossed A e) ≤ n + 1
      enough' = subst (λ j. j ≤ n + 1) (sym (fewest_same e)) enough

      abbrev mixed : ℕ → Number
      mixed k = mix a b c d (moment_of e y0 k) (moment_of (crossed A e) z0 k) (moment_of e y1 k) (moment_of (crossed A e) z1 k)

      mixed_is : (k : ℕ) → k ≤ n → mixed k ≡ moment_of e y' k
      mixed_is =
          moments_are_the_only_spline A F O x y' n rising e enough mixed
          (respects x n steps_wide (λ k. mix a b c d (y0 k) (z0 k) (y1 k) (z1 k)) y' mixed same e enough
          (mixture O x n rising a b c d unity y0 z0 y1 z1 (moment_of e y0) (moment_of (crossed A e) z0) (moment_of e y1)
          (moment_of (crossed A e) z1) e enough
          (moments_are_a_spline A F O x y0 n rising e enough)
          (moments_are_a_spline A F O x z0 n rising (crossed A e) enough')
          (moments_are_a_spline A F O x y1 n rising e enough)
          (moments_are_a_spline A F O x z1 n rising (crossed A e) enough')))

      moved_moments : (m m' : ℕ → Number) (i : ℕ) (p : Number) → m i ≡ m' i → m (i + 1) ≡ m' (i + 1)
          → slope_in_cell A x y' m i p ≡ slope_in_cell A x y' m' i p
      unfolding slope_in_cell
      moved_moments m m' i p f g = ap₂ (λ q r. slope A (Steps.h A x i) (y' i) (y' (i + 1)) q r (p ⊖ x i)) f g

      cell_mixes : (i : ℕ) → i < n → (p : Number) →
          slope_in_cell A x y' (moment_of e y') i p
          ≡ mix a b c d (slope_in_cell A x y0 (moment_of e y0) i p) (slope_in_cell A x z0 (moment_of (crossed A e) z0) i p)
          (slope_in_cell A x y1 (moment_of e y1) i p) (slope_in_cell A x z1 (moment_of (crossed A e) z1) i p)
      cell_mixes i h p =
          moved_moments (moment_of e y') mixed i p (sym (mixed_is i (omega arith))) (sym (mixed_is (i + 1) (omega arith)))
          ∙ sym (slope_respects x n steps_wide (λ k. mix a b c d (y0 k) (z0 k) (y1 k) (z1 k)) y' mixed same i h p)
          ∙ slope_mixes O x n rising a b c d unity y0 z0 y1 z1 (moment_of e y0) (moment_of (crossed A e) z0) (moment_of e y1)
          (moment_of (crossed A e) z1) i h p

      -- the slopes of a mixture are the mixture of the slopes
      pub slopes_mix : (i : ℕ) → i ≤ n → 1 ≤ n
          → slope_of e y' i ≡ mix a b c d (slope_of e y0 i) (slope_of (crossed A e) z0 i) (slope_of e y1 i) (slope_of (crossed A e) z1 i)
      slopes_mix i h some = go (dec_lt i n)
        where
          go : Dec (i < n)
              → slope_of e y' i
              ≡ mix a b c d (slope_of e y0 i) (slope_of (crossed A e) z0 i) (slope_of e y1 i) (slope_of (crossed A e) z1 i)
          go (yes k) =
              slope_of_lower e enough y' i k
              ∙ cell_mixes i k (x i)
              ∙ mix_ap a b c d (sym (slope_of_lower e enough y0 i k)) (sym (slope_of_lower (crossed A e) enough' z0 i k))
              (sym (slope_of_lower e enough y1 i k)) (sym (slope_of_lower (crossed A e) enough' z1 i k))
          go (no k) =
              let f : n - 1 + 1 ≡ i = omega arith in
              subst (λ i. slope_of e y' i ≡ mix a b c d (slope_of e y0 i) (slope_of (crossed A e) z0 i) (slope_of e y1 i)
              (slope_of (crossed A e) z1 i)) f
              (slope_of_upper e enough y' (n - 1) (omega arith)
              ∙ cell_mixes (n - 1) (omega arith) (x (n - 1 + 1))
              ∙ mix_ap a b c d (sym (slope_of_upper e enough y0 (n - 1) (omega arith)))
              (sym (slope_of_upper (crossed A e) enough' z0 (n - 1) (omega arith)))
              (sym (slope_of_upper e enough y1 (n - 1) (omega arith)))
              (sym (slope_of_upper (crossed A e) enough' z1 (n - 1) (omega arith))))

    -- the slopes of a lane, its moments as a function
    lane_is : (e : Condition Number) (l : List Number) (i : ℕ) → i ≤ n → 1 ≤ n → lane_slope A x n e l i ≡ slope_of e (at A l) i
    unfolding lane_slope knot_slope moments
    lane_is e l i h some = go (dec_lt i n)
      where
        read : (k : ℕ) → k ≤ n → at A (table (n + 1) (moment_of e (at A l))) k ≡ moment_of e (at A l) k
        read k b = at_table (n + 1) (moment_of e (at A l)) k A.absent (omega arith)

        go : Dec (i < n) → lane_slope A x n e l i ≡ slope_of e (at A l) i
        go (yes k) =
            cond_true (ltb i n) _ _ (lt-ltb i n k)
            ∙ ap₂ (lower_slope A (Steps.h A x i) (Steps.s A x (at A l) i)) (read i (omega arith)) (read (i + 1) (omega arith))
            ∙ sym (cond_true (ltb i n) _ _ (lt-ltb i n k))
        go (no k) =
            cond_false (ltb i n) _ _ (le-ltb i n (omega arith))
            ∙ ap₂ (upper_slope A (Steps.h A x (n - 1)) (Steps.s A x (at A l) (n - 1))) (read (n - 1) (omega arith)) (read n (omega arith))
            ∙ sym (cond_false (ltb i n) _ _ (le-ltb i n (omega arith)))

    -- the slopes of a lane that is a mixture of lanes
    pub lane_mix : (a b c d : Number) → a ⊕ c ≡ one → (e : Condition Number) → fewest_points e ≤ n + 1 → (size : ℕ) → size ≡ n + 1 → 1 ≤ n
        → (f0 g0 f1 g1 : ℕ → Number) (i : ℕ) → i ≤ n
        → lane_slope A x n e (table size (λ k. mix a b c d (f0 k) (g0 k) (f1 k) (g1 k))) i
        ≡ mix a b c d (lane_slope A x n e (table size f0) i) (lane_slope A x n (crossed A e) (table size g0) i)
        (lane_slope A x n e (table size f1) i) (lane_slope A x n (crossed A e) (table size g1) i)
    lane_mix a b c d unity e enough size full some f0 g0 f1 g1 i h =
        lane_is e (table size (λ k. mix a b c d (f0 k) (g0 k) (f1 k) (g1 k))) i h some
        ∙ slopes_mix a b c d unity e enough (at A (table size f0)) (at A (table size g0)) (at A (table size f1)) (at A (table size g1))
        (at A (table size (λ k. mix a b c d (f0 k) (g0 k) (f1 k) (g1 k))))
        (λ k b.
        mix_ap a _ c d (read f0 k b) (read g0 k b) (read f1 k b) (read g1 k b)
        ∙ sym (read (λ k. mix a _ c d (f0 k) (g0 k) (f1 k) (g1 k)) k b))
        i h some
        ∙ mix_ap a b c d
        (sym (lane_is e (table size f0) i h some)) (sym (lane_is (crossed A e) (table size g0) i h some))
        (sym (lane_is e (table size f1) i h some)) (sym (lane_is (crossed A e) (table size g1) i h some))
      where
        read : (f : ℕ → Number) (k : ℕ) → k ≤ n → at A (table size f) k ≡ f k
        read f k b = at_table size f k A.absent (omega arith)
