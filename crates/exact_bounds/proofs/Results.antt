-- One operation on floats that are off already: how far its result lies from that of the exact numbers, by the sizes of the floats.
use mathlib.Core.Path.{◌≡◌, refl, sym, ◌∙◌, ap, subst}
use mathlib.Core.Bool.{true, false}
use mathlib.Core.List.{[], ◌∷◌}
use mathlib.Core.Logic.{◌⊎◌, inl, inr}
use lib.Dec.{T}
use lib.Ieee.{Float, nan, inf, fin, binary64, fits}
use lib.Ieee.Scale.{finite}
use Rattle.rules.specs.Numbers.{◌⊕◌, ◌⊖◌, ◌⊗◌, ◌⊘◌}
use Rattle.exact_solver.specs.Expressions.{var, t0, t1, add, sub, mul, div, neg}
use Rattle.exact_solver.proofs.Solver.{solve}
use Rattle.exact_rationals.specs.Rationals.{
  ℚ,
  number,
  plus,
  minus,
  times,
  over,
  negative,
  rationals,
  Positive,
  Least,
  decide_positive,
}
use Rattle.exact_rationals.specs.Values.{value}
use Rattle.exact_rationals.proofs.RationalLaws as Q
use Rattle.exact_rationals.proofs.OrderedField.{rationals_are_a_field}
use Rattle.exact_rationals.proofs.Order.{least_plus, least_times, least_number, positive_least, not_positive, ring}
use Rattle.exact_rounding.specs.Near.{Near, Within, size}
use Rattle.exact_rounding.proofs.Nearness.{near_wider}
use Rattle.exact_rounding.proofs.Operations.{add_bound, sub_bound, mul_bound, div_bound}
use Rattle.exact_rounding.proofs.Approx.{
  within_plus,
  within_times,
  within_negative,
  within_size,
  bound_least,
  off,
  on,
  near_back,
  near_through,
  near_plus,
  near_minus,
  near_times,
}
use Rattle.exact_blend.proofs.Weights.{within_self}
use Rattle.exact_blend.proofs.Fraction.{positive_more, least_over, small}
use Rattle.exact_blend.proofs.TheQuery.{share_least}
use Rattle.exact_bounds.specs.Bounds.{u, v, part, sum_off, product_off, quotient_off}

-- ---- a rounding as a part of its result

part_enough : Least (minus (times part (minus (number 1) u)) u)
part_enough =
    subst (λ z. Least (minus z u)) (sym (Q.over_times u (minus (number 1) u) (Q.positive_not_nought _ small)))
    (subst Least (ring (u ∷ []) t0 (sub (var 0) (var 0)) tt tt tt) (least_number 0))

part_least : Least part
part_least = least_over _ _ share_least small

-- r is X rounded, and s the size of r
module _ (r X s : ℚ) (sized : Within r s) (rounded : (b : ℚ) → Within X b → Near r X (times u b)) where
  from_positive : Least X → Near r X (times part s)
  from_positive h =
      let n : Near r X (times u X) = rounded X (within_self X h) in
      near_wider _ _ _ _ n
      (subst Least
      (ring (r ∷ X ∷ s ∷ u ∷ part ∷ [])
      (add (add (mul (var 4) (sub (var 2) (var 0))) (mul (var 4) (sub (add (var 0) (mul (var 3) (var 1))) (var 1))))
      (mul (sub (mul (var 4) (sub t1 (var 3))) (var 3)) (var 1)))
      (sub (mul (var 4) (var 2)) (mul (var 3) (var 1))) tt tt tt)
      (least_plus _ _ (least_plus _ _ (least_times _ _ part_least sized.under) (least_times _ _ part_least n.above))
      (least_times _ _ part_enough h)))

  from_negative : Least (negative X) → Near r X (times part s)
  from_negative h =
      let w : Within X (negative X) =
      subst (λ z. Within z (negative X)) (ring (X ∷ []) (neg (neg (var 0))) (var 0) tt tt tt)
      (within_negative _ _ (within_self (negative X) h)) in
      let n : Near r X (times u (negative X)) = rounded (negative X) w in
      near_wider _ _ _ _ n
      (subst Least
      (ring (r ∷ X ∷ s ∷ u ∷ part ∷ [])
      (add (add (mul (var 4) (add (var 2) (var 0))) (mul (var 4) (sub (add (var 1) (mul (var 3) (neg (var 1)))) (var 0))))
      (mul (sub (mul (var 4) (sub t1 (var 3))) (var 3)) (neg (var 1))))
      (sub (mul (var 4) (var 2)) (mul (var 3) (neg (var 1)))) tt tt tt)
      (least_plus _ _ (least_plus _ _ (least_times _ _ part_least sized.above) (least_times _ _ part_least n.under))
      (least_times _ _ part_enough h)))

  pub part_of_result : Near r X (times part s)
  part_of_result = go (decide_positive X)
    where
      go : Dec (Positive X) → Near r X (times part s)
      go (yes h) = from_positive (positive_least X h)
      go (no h) = from_negative (not_positive X h)

-- ---- one over a number that is away from nought, on either side

module _ (Y g : ℚ) (g_positive : Positive g) where
  above_nought : Least (minus Y g) → Positive Y
  above_nought h = subst Positive (ring (Y ∷ g ∷ []) (add (var 1) (sub (var 0) (var 1))) (var 0) tt tt tt) (positive_more _ _ g_positive h)

  inverse_within : Least (minus Y g) → Within (over (number 1) Y) (over (number 1) g)
  inverse_within h =
      let p : Positive Y = above_nought h in
      record {
        under = subst Least
            (solve rationals rationals_are_a_field 2 (Y ∷ g ∷ []) (Q.positive_not_nought Y p, (Q.positive_not_nought g g_positive, tt))
            (div (sub (var 0) (var 1)) (mul (var 0) (var 1))) (sub (div t1 (var 1)) (div t1 (var 0))) tt tt tt)
            (least_over _ _ h (Q.positive_times _ _ p g_positive));
        above =
            least_plus _ _ (least_over _ _ (least_number 1) g_positive) (least_over _ _ (least_number 1) p);
      }

pub record Away (Y g : ℚ) : Type 0 where
  pub not_nought : ¬ (Y ≡ number 0)
  pub inverse : Within (over (number 1) Y) (over (number 1) g)

-- from above, or from below
pub away : (Y g : ℚ) → Positive g → Least (minus Y g) ⊎ Least (minus (negative Y) g) → Away Y g
away Y g p (inl h) = record { not_nought = Q.positive_not_nought Y (above_nought Y g p h); inverse = inverse_within Y g p h }
away Y g p (inr h) =
    let q : Positive (negative Y) = above_nought (negative Y) g p h in
    record {
      not_nought = λ e. Q.positive_not_nought (negative Y) q (subst (λ z. negative z ≡ number 0) (sym e) negative_nought);
      inverse = subst (λ z. Within z (over (number 1) g))
          (solve rationals rationals_are_a_field 1 (negative Y ∷ []) (Q.positive_not_nought _ q, tt) (neg (div t1 (var 0)))
          (div t1 (neg (var 0))) tt tt tt
          ∙ ap (over (number 1)) (ring (Y ∷ []) (neg (neg (var 0))) (var 0) tt tt tt))
          (within_negative _ _ (inverse_within (negative Y) g p h));
    }
  where
    negative_nought : negative (number 0) ≡ number 0
    negative_nought = ring [] (neg t0) t0 tt tt tt

-- a finite float is its size or the opposite
pub signs : (y : Float) → T (finite y) → (value y ≡ size y) ⊎ (value y ≡ negative (size y))
unfolding negative
signs nan h = absurd h
signs (inf s) h = absurd h
signs (fin false m e) h = inl refl
signs (fin true m e) h = inr refl

-- a number Y that a float y with its error d cannot take to nought
pub far : (y : Float) (Y d : ℚ) → T (finite y) → Near (value y) Y d
    → Least (minus Y (minus (size y) d)) ⊎ Least (minus (negative Y) (minus (size y) d))
far y Y d f n = go (signs y f)
  where
    go : (value y ≡ size y) ⊎ (value y ≡ negative (size y))
        → Least (minus Y (minus (size y) d)) ⊎ Least (minus (negative Y) (minus (size y) d))
    go (inl e) =
        inl (subst Least (ring (size y ∷ Y ∷ d ∷ []) (sub (add (var 1) (var 2)) (var 0)) (sub (var 1) (sub (var 0) (var 2))) tt tt tt)
        (subst (λ z. Least (minus (plus Y d) z)) e n.under))
    go (inr e) =
        inr (subst Least
        (ring (size y ∷ Y ∷ d ∷ []) (sub (add (neg (var 0)) (var 2)) (var 1)) (sub (neg (var 1)) (sub (var 0) (var 2))) tt tt tt)
        (subst (λ z. Least (minus (plus z d) Y)) e n.above))

-- ---- the four operations, on x near X by e and y near Y by d

module _ (x y : Float) (X Y e d : ℚ) (x_fits : T (fits binary64 x)) (y_fits : T (fits binary64 y))
    (x_finite : T (finite x)) (y_finite : T (finite y)) (x_near : Near (value x) X e) (y_near : Near (value y) Y d) where
  pub sum_near : T (finite (x ⊕ y)) → Near (value (x ⊕ y)) (plus X Y) (sum_off rationals part (size (x ⊕ y)) e d)
  sum_near f =
      near_through _ _ _ _ _
      (part_of_result _ _ _ (within_size (x ⊕ y)) (add_bound binary64 x y x_fits y_fits x_finite y_finite f))
      (near_plus _ _ _ _ _ _ x_near y_near)

  pub difference_near : T (finite (x ⊖ y)) → Near (value (x ⊖ y)) (minus X Y) (sum_off rationals part (size (x ⊖ y)) e d)
  difference_near f =
      near_through _ _ _ _ _
      (part_of_result _ _ _ (within_size (x ⊖ y)) (sub_bound binary64 x y x_fits y_fits x_finite y_finite f))
      (near_minus _ _ _ _ _ _ x_near y_near)

  pub product_near : T (finite (x ⊗ y)) → Near (value (x ⊗ y)) (times X Y) (product_off rationals u v (size x) e (size y) d)
  product_near f =
      near_through _ _ _ _ _
      (mul_bound binary64 x y x_finite y_finite f (times (size x) (size y)) (within_times _ _ _ _ (within_size x) (within_size y)))
      (near_back _ _ _ (near_times _ _ _ _ _ _ _ _ (within_size x) (within_size y) (near_back _ _ _ x_near) (near_back _ _ _ y_near)))

  -- the divisor is larger than its error
  module _ (clear : Positive (minus (size y) d)) (f : T (finite (x ⊘ y))) where
    size_positive : Positive (size y)
    size_positive =
        subst Positive (ring (size y ∷ d ∷ []) (add (sub (var 0) (var 1)) (var 1)) (var 0) tt tt tt)
        (positive_more _ _ clear (bound_least _ _ (off _ _ _ y_near)))

    own : Away (value y) (size y)
    own = away (value y) (size y) size_positive (go (signs y y_finite))
      where
        go : (value y ≡ size y) ⊎ (value y ≡ negative (size y))
            → Least (minus (value y) (size y)) ⊎ Least (minus (negative (value y)) (size y))
        go (inl same) =
            inl (subst (λ z. Least (minus z (size y))) (sym same)
            (subst Least (ring (size y ∷ []) t0 (sub (var 0) (var 0)) tt tt tt) (least_number 0)))
        go (inr same) =
            inr (subst (λ z. Least (minus (negative z) (size y))) (sym same)
            (subst Least (ring (size y ∷ []) t0 (sub (neg (neg (var 0))) (var 0)) tt tt tt) (least_number 0)))

    theirs : Away Y (minus (size y) d)
    theirs = away Y (minus (size y) d) clear (far y Y d y_finite y_near)

    -- the quotient times the divisor is the dividend, but for one rounding
    comes_back : Within (minus (times (value (x ⊘ y)) (value y)) (value x)) (plus (times u (size x)) (times v (size y)))
    comes_back =
        subst (λ b. Within (minus (times (value (x ⊘ y)) (value y)) (value x)) b)
        (solve rationals rationals_are_a_field 1 (size y ∷ size x ∷ u ∷ v ∷ []) (Q.positive_not_nought _ size_positive, tt)
        (mul (add (mul (var 2) (mul (var 1) (div t1 (var 0)))) (var 3)) (var 0)) (add (mul (var 2) (var 1)) (mul (var 3) (var 0))) tt tt tt)
        (subst (λ z. Within z (times (plus (times u (times (size x) (over (number 1) (size y)))) v) (size y)))
        (solve rationals rationals_are_a_field 1 (value y ∷ value x ∷ value (x ⊘ y) ∷ []) (own.not_nought, tt)
        (mul (sub (var 2) (div (var 1) (var 0))) (var 0)) (sub (mul (var 2) (var 0)) (var 1)) tt tt tt)
        (within_times _ _ _ _
        (off _ _ _ (div_bound binary64 x y x_finite y_finite f (times (size x) (over (number 1) (size y)))
        (subst (λ z. Within z (times (size x) (over (number 1) (size y))))
        (solve rationals rationals_are_a_field 1 (value y ∷ value x ∷ []) (own.not_nought, tt) (mul (var 1) (div t1 (var 0)))
        (div (var 1) (var 0)) tt tt tt)
        (within_times _ _ _ _ (within_size x) own.inverse))))
        (within_size y)))

    abbrev q : ℚ
    q = value (x ⊘ y)

    abbrev missed : ℚ
    missed = plus (plus (plus (times u (size x)) (times v (size y))) (times (size (x ⊘ y)) d)) e

    -- and times the exact divisor it misses the exact dividend by so much
    comes_near : Within (minus (times q Y) X) missed
    comes_near =
        subst (λ z. Within z missed)
        (ring (q ∷ value y ∷ Y ∷ value x ∷ X ∷ [])
        (add (add (sub (mul (var 0) (var 1)) (var 3)) (mul (var 0) (sub (var 2) (var 1)))) (sub (var 3) (var 4)))
        (sub (mul (var 0) (var 2)) (var 4)) tt tt tt)
        (within_plus _ _ _ _
        (within_plus _ _ _ _ comes_back (within_times _ _ _ _ (within_size (x ⊘ y)) (off _ _ _ (near_back _ _ _ y_near))))
        (off _ _ _ x_near))

    pub quotient_near : Near q (over X Y) (quotient_off rationals u v (size x) e (size y) d (size (x ⊘ y)))
    quotient_near =
        on _ _ _
        (subst (λ b. Within (minus q (over X Y)) b)
        (solve rationals rationals_are_a_field 1 (minus (size y) d ∷ missed ∷ []) (Q.positive_not_nought _ clear, tt)
        (mul (var 1) (div t1 (var 0))) (div (var 1) (var 0)) tt tt tt)
        (subst (λ z. Within z (times missed (over (number 1) (minus (size y) d))))
        (solve rationals rationals_are_a_field 1 (Y ∷ X ∷ q ∷ []) (theirs.not_nought, tt)
        (mul (sub (mul (var 2) (var 0)) (var 1)) (div t1 (var 0))) (sub (var 2) (div (var 1) (var 0))) tt tt tt)
        (within_times _ _ _ _ comes_near theirs.inverse)))
