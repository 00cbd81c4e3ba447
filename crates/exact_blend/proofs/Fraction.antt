-- Where a point lies in its cell: the fraction of the rules is the exact one to within a little more than three roundings.
use mathlib.Core.Path.{◌≡◌, sym, subst}
use mathlib.Core.List.{List, [], ◌∷◌}
use mathlib.Core.Quot.{ind}
use mathlib.Core.HLevel.{Π_prop}
use Prim.Native.Nat.{ℕ, ◌+◌, ◌*◌, ◌<◌, ◌≤◌}
use native.Mathlib.Nat.{mul-le-mul_right}
use native.Mathlib.Omega.{arith}
use lib.Dec.{T, leb→le}
use lib.Ieee.{Float, binary64, fits}
use lib.Ieee.Scale.{finite}
use Rattle.exact_solver.specs.Expressions.{Term, var, t1, t2, add, sub, mul, div}
use Rattle.exact_solver.proofs.Solver.{solve}
use Rattle.exact_rationals.proofs.RationalLaws as Q
use Rattle.exact_rationals.specs.Rationals.{ℚ, mk, number, rationals, plus, minus, times, over, negative, Positive, positive_prop, Least}
use Rattle.exact_rationals.proofs.OrderedField.{rationals_are_a_field}
use Rattle.exact_rationals.specs.Values.{value}
use Rattle.exact_rounding.specs.Near.{Near, Within}
use Rattle.exact_rationals.proofs.Order.{ring, least_plus, least_times, positive_least}
use Rattle.exact_rounding.proofs.Nearness.{near_wider}
use Rattle.exact_rounding.proofs.Operations.{sub_bound, div_bound}
use Rattle.exact_rounding.proofs.Approx.{u, v, on, near_through, within_near}
use Rattle.rules.specs.Numbers.{◌⊖◌, ◌⊘◌}
use Rattle.exact_blend.proofs.Weights.{amount, within_self}

pub positive_more : (x y : ℚ) → Positive x → Least y → Positive (plus x y)
unfolding Positive Least plus
positive_more x y =
    ind {0, 0, 0} {β = λ x. Positive x → Least y → Positive (plus x y)}
    (λ x. Π_prop (λ h. Π_prop (λ k. positive_prop (plus x y))))
    (λ a. ind {0, 0, 0} {β = λ y. Positive (mk a) → Least y → Positive (plus (mk a) y)}
    (λ y. Π_prop (λ h. Π_prop (λ k. positive_prop (plus (mk a) y))))
    (λ b h k. sums a.p a.n a.d b.p b.n b.d b.below h k) y) x
  where
    sums : (p n d p' n' d' : ℕ) → 0 < d' → n < p → n' ≤ p' → n * d' + n' * d < p * d' + p' * d
    sums p n d p' n' d' j h k = omega (arith, mul-le-mul_right d' h, mul-le-mul_right d k)

pub least_over : (x y : ℚ) → Least x → Positive y → Least (over x y)
least_over x y h k =
    subst Least (solve rationals rationals_are_a_field 1 (y ∷ x ∷ []) (Q.positive_not_nought y k, tt) (mul (var 1) (div t1 (var 0)))
    (div (var 1) (var 0)) tt tt tt)
    (least_times _ _ h (positive_least _ (Q.positive_over _ _ Q.positive_one k)))

abbrev e : ℚ
e = amount 2049

spare : Least (minus (times e (minus (number 1) u)) (times (number 2) u))
unfolding Least minus plus times negative number
spare = leb→le _ _ tt

least_2u : Least (times (number 2) u)
unfolding Least times number
least_2u = leb→le _ _ tt

least_e : Least e
unfolding Least
least_e = leb→le _ _ tt

pub small : Positive (minus (number 1) u)
unfolding Positive minus plus negative number
small = leb→le _ _ tt

in_all : Least (minus (amount 3074) (plus e (plus (times u (plus (number 1) e)) v)))
unfolding Least minus plus times negative number
in_all = leb→le _ _ tt

-- d is near f H and h near H, each by its own share
module _ (f H d h : ℚ) (dn : Near d (times f H) (times u (times f H))) (hn : Near h H (times u H)) (f_least : Least f)
    (f_high : Least (minus H (times f H))) (H_positive : Positive H) where
  abbrev env : List ℚ
  env = f ∷ H ∷ d ∷ h ∷ u ∷ e ∷ []

  h_positive : Positive h
  h_positive =
      subst Positive (ring env (add (mul (sub t1 (var 4)) (var 1)) (sub (add (var 3) (mul (var 4) (var 1))) (var 1))) (var 3) tt tt tt)
      (positive_more _ _ (Q.positive_times _ _ small H_positive) hn.above)

  rest : Least (plus (times (minus (times e (minus (number 1) u)) (times (number 2) u)) H)
      (times (times (number 2) u) (minus H (times f H))))
  rest = least_plus _ _ (least_times _ _ spare (positive_least _ H_positive)) (least_times _ _ least_2u f_high)

  abbrev rest_term : Term
  rest_term =
      add (mul (sub (mul (var 5) (sub t1 (var 4))) (mul t2 (var 4))) (var 1)) (mul (mul t2 (var 4)) (sub (var 1) (mul (var 0) (var 1))))

  abbrev h_term : Term
  h_term = mul (var 5) (sub (add (var 3) (mul (var 4) (var 1))) (var 1))

  quotient_near : Near (over d h) f e
  quotient_near =
      on _ _ _ (record {
        under =
            subst Least
            (solve rationals rationals_are_a_field 1 (h ∷ H ∷ d ∷ f ∷ u ∷ e ∷ []) (Q.positive_not_nought h h_positive, tt)
            (div (sub (mul (var 5) (var 0)) (sub (var 2) (mul (var 3) (var 0)))) (var 0))
            (sub (var 5) (sub (div (var 2) (var 0)) (var 3))) tt tt tt)
            (least_over _ _
            (subst Least
            (ring env
            (add (add (add h_term rest_term) (sub (add (mul (var 0) (var 1)) (mul (var 4) (mul (var 0) (var 1)))) (var 2)))
            (mul (var 0) (sub (add (var 3) (mul (var 4) (var 1))) (var 1))))
            (sub (mul (var 5) (var 3)) (sub (var 2) (mul (var 0) (var 3)))) tt tt tt)
            (least_plus _ _ (least_plus _ _ (least_plus _ _ (least_times _ _ least_e hn.above) rest) dn.under)
            (least_times _ _ f_least hn.above)))
            h_positive);
        above =
            subst Least
            (solve rationals rationals_are_a_field 1 (h ∷ H ∷ d ∷ f ∷ u ∷ e ∷ []) (Q.positive_not_nought h h_positive, tt)
            (div (add (mul (var 5) (var 0)) (sub (var 2) (mul (var 3) (var 0)))) (var 0))
            (add (var 5) (sub (div (var 2) (var 0)) (var 3))) tt tt tt)
            (least_over _ _
            (subst Least
            (ring env
            (add (add (add h_term rest_term) (sub (add (var 2) (mul (var 4) (mul (var 0) (var 1)))) (mul (var 0) (var 1))))
            (mul (var 0) (sub (add (var 1) (mul (var 4) (var 1))) (var 3))))
            (add (mul (var 5) (var 3)) (sub (var 2) (mul (var 0) (var 3)))) tt tt tt)
            (least_plus _ _ (least_plus _ _ (least_plus _ _ (least_times _ _ least_e hn.above) rest) dn.above)
            (least_times _ _ f_least hn.under)))
            h_positive);
      })

module _ (p x y : Float) (p_fits : T (fits binary64 p)) (x_fits : T (fits binary64 x)) (y_fits : T (fits binary64 y))
    (p_finite : T (finite p)) (x_finite : T (finite x)) (y_finite : T (finite y))
    (low : Least (minus (value p) (value x))) (high : Least (minus (minus (value y) (value x)) (minus (value p) (value x))))
    (wide : Positive (minus (value y) (value x)))
  where
    abbrev pub D : ℚ
    D = minus (value p) (value x)

    abbrev pub H : ℚ
    H = minus (value y) (value x)

    part : times (over D H) H ≡ D
    part = Q.over_times D H (Q.positive_not_nought H wide)

    pub one_or_less : Least (minus (number 1) (over D H))
    one_or_less =
        subst Least (solve rationals rationals_are_a_field 1 (H ∷ D ∷ []) (Q.positive_not_nought H wide, tt)
        (div (sub (var 0) (var 1)) (var 0)) (sub t1 (div (var 1) (var 0))) tt tt tt)
        (least_over _ _ high wide)

    pub fraction_near : T (finite (p ⊖ x)) → T (finite (y ⊖ x)) → T (finite ((p ⊖ x) ⊘ (y ⊖ x)))
        → Near (value ((p ⊖ x) ⊘ (y ⊖ x))) (over D H) (amount 3074)
    fraction_near a b c =
        let dn : Near (value (p ⊖ x)) D (times u D) = sub_bound binary64 p x p_fits x_fits p_finite x_finite a D (within_self D low) in
        let hn : Near (value (y ⊖ x)) H (times u H) = sub_bound binary64 y x y_fits x_fits y_finite x_finite b H
        (within_self H (positive_least _ wide)) in
        let f_least : Least (over D H) = least_over _ _ low wide in
        let q : Near (over (value (p ⊖ x)) (value (y ⊖ x))) (over D H) e =
        quotient_near (over D H) H (value (p ⊖ x)) (value (y ⊖ x))
        (subst (λ z. Near (value (p ⊖ x)) z (times u z)) (sym part) dn) hn f_least (subst (λ z. Least (minus H z)) (sym part) high) wide in
        let w : Within (over D H) (number 1) = record
        { under = one_or_less; above = least_plus _ _ (positive_least _ Q.positive_one) f_least } in
        near_wider _ _ _ _ (near_through _ _ _ _ _ (div_bound binary64 (p ⊖ x) (y ⊖ x) a b c (plus (number 1) e) (within_near _ _ _ _ q w))
        q) in_all
