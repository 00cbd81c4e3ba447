-- The blend at a point inside a cell, with the fraction and the width as the rules compute them, is the exact blend at the exact fraction:
-- the
-- errors of fraction and width, each by how fast a weight changes, beside those of the blend.
use mathlib.Core.Path.{◌≡◌, refl, sym, ◌∙◌, subst}
use mathlib.Core.Bool.{Bool, true, false}
use mathlib.Core.List.{[], ◌∷◌}
use lib.Dec.{T}
use Prim.Native.Nat.{◌≤◌}
use denote.Floats.{passes}
use borrow.Author.Tests.{leb-true}
use lib.Ieee.{Float, binary64, fits, lt, le}
use lib.Ieee.Fits.{sub-fits, div-fits}
use lib.Ieee.Scale.{finite}
use Rattle.rules.specs.Numbers.{◌⊖◌, ◌⊘◌}
use Rattle.rules.specs.Query as Rules
use Rattle.base_floats.specs.Place.{place_in}
use Rattle.base_floats.proofs.Places.{no_nan, le_places}
use Rattle.exact_solver.specs.Expressions.{Term, var, t0, t1, t2, t3, add, sub, mul, neg, terms, divides, same, meaning}
use Rattle.exact_rationals.specs.Rationals.{ℚ, Least, Positive, number, plus, minus, times, over, negative, rationals}
use Rattle.exact_rationals.specs.Values.{value}
use Rattle.exact_rationals.proofs.Order.{least_plus, least_times, least_number, least_both, positive_least, ring}
use Rattle.exact_rationals.proofs.Comparisons.{less_is_less, not_less, at_most}
use Rattle.exact_spline.specs.Query as Exact
use Rattle.exact_rounding.specs.Near.{Near, Within, size}
use Rattle.exact_rounding.proofs.Operations.{sub_bound, div_nought}
use Rattle.exact_rounding.proofs.Approx.{u, v, within_times, within_plus, within_negative, within_size, off, on, near_through}
use Rattle.exact_blend.specs.BlendErrors.{q00, q10, q11, w10, w11, moved_by}
use Rattle.exact_blend.proofs.Weights.{amount, within_self}
use Rattle.exact_blend.proofs.AnyAxes.{k, j, hermite_near}
use Rattle.exact_blend.proofs.Fraction.{least_over, one_or_less, fraction_near}
use Rattle.exact_blend.proofs.InCell.{fraction_at_most_one, fraction_at_least_nought}

-- how fast the weights change between two fractions, and how large two of them are
module _
    (t s : ℚ) (t_low : Least t) (t_high : Least (minus (number 1) t)) (s_low : Least s) (s_high : Least (minus (number 1) s)) where
  by : (a b : Term) → T (divides 0 a) → T (divides 0 b) → T (same a b) → Least (meaning rationals (t ∷ s ∷ []) a)
      → Least (meaning rationals (t ∷ s ∷ []) b)
  by a b p q e l = subst Least (ring (t ∷ s ∷ []) a b p q e) l

  abbrev x : Term
  x = var 0

  abbrev y : Term
  y = var 1

  abbrev x' : Term
  x' = sub t1 (var 0)

  abbrev y' : Term
  y' = sub t1 (var 1)

  both : (a b : ℚ) → Least a → Least b → Least (plus a b)
  both = least_plus

  product : (a b : ℚ) → Least a → Least b → Least (times a b)
  product = least_times

  within_q00 : Within (q00 rationals t s) (number 3)
  within_q00 =
      record {
        under =
            by (add t3 (add (add (mul t2 (mul x x')) (mul t2 (mul y y'))) (add (mul x y') (mul y x')))) (sub t3 (q00 terms x y)) tt tt tt
            (both _ _ (least_number 3) (both _ _
            (both _ _ (product _ _ (least_number 2) (product _ _ t_low t_high)) (product _ _ (least_number 2) (product _ _ s_low s_high)))
            (both _ _ (product _ _ t_low s_high) (product _ _ s_low t_high))));
        above =
            by (add (add (add (mul x x) (mul x' x')) (add (mul y y) (mul y' y'))) (add (mul x y) (mul x' y')))
            (add t3 (q00 terms x y)) tt tt tt
            (both _ _ (both _ _ (both _ _ (product _ _ t_low t_low) (product _ _ t_high t_high))
            (both _ _ (product _ _ s_low s_low) (product _ _ s_high s_high)))
            (both _ _ (product _ _ t_low s_low) (product _ _ t_high s_high)));
      }

  within_q10 : Within (q10 rationals t s) (number 1)
  within_q10 =
      record {
        under = by (add (add (mul x x') (mul y y')) (add (mul x y') y)) (sub t1 (q10 terms x y)) tt tt tt
            (both _ _ (both _ _ (product _ _ t_low t_high) (product _ _ s_low s_high)) (both _ _ (product _ _ t_low s_high) s_low));
        above = by (add (add (mul x' x') (mul y' y')) (mul x y)) (add t1 (q10 terms x y)) tt tt tt
            (both _ _ (both _ _ (product _ _ t_high t_high) (product _ _ s_high s_high)) (product _ _ t_low s_low));
      }

  within_q11 : Within (q11 rationals t s) (number 1)
  within_q11 =
      record {
        under = by (add (add (mul x x') (mul y y')) (add x' (mul x y'))) (sub t1 (q11 terms x y)) tt tt tt
            (both _ _ (both _ _ (product _ _ t_low t_high) (product _ _ s_low s_high)) (both _ _ t_high (product _ _ t_low s_high)));
        above = by (add (add (mul x x) (mul y y)) (mul x' y')) (add t1 (q11 terms x y)) tt tt tt
            (both _ _ (both _ _ (product _ _ t_low t_low) (product _ _ s_low s_low)) (product _ _ t_high s_high));
      }

  pub within_w10 : Within (w10 rationals s) (number 1)
  within_w10 =
      record {
        under = by (add y' (mul (mul y y) (add t1 y'))) (sub t1 (w10 terms y)) tt tt tt
            (both _ _ s_high (product _ _ (product _ _ s_low s_low) (both _ _ (least_number 1) s_high)));
        above = by (add t1 (mul y (mul y' y'))) (add t1 (w10 terms y)) tt tt tt
            (both _ _ (least_number 1) (product _ _ s_low (product _ _ s_high s_high)));
      }

  pub within_w11 : Within (w11 rationals s) (number 1)
  within_w11 =
      record {
        under = by (add t1 (mul (mul y y) y')) (sub t1 (w11 terms y)) tt tt tt
            (both _ _ (least_number 1) (product _ _ (product _ _ s_low s_low) s_high));
        above = by (add y' (mul y (add y' (mul y y)))) (add t1 (w11 terms y)) tt tt tt
            (both _ _ s_high (product _ _ s_low (both _ _ s_high (product _ _ s_low s_low))));
      }

  -- the exact blend at two fractions and two widths: t and W, s and U
  module _
      (W U d e P0 M0 P1 M1 A0 B0 A1 B1 : ℚ) (fraction : Near s t d) (width : Near U W e) (wide : Within W W)
      (p0 : Within P0 A0) (m0 : Within M0 B0) (p1 : Within P1 A1) (m1 : Within M1 B1) where
    change : minus (Exact.hermite rationals P0 M0 P1 M1 U s) (Exact.hermite rationals P0 M0 P1 M1 W t)
        ≡ plus (plus (plus (times (times (minus s t) (q00 rationals t s)) P0)
        (times (plus (times (w10 rationals s) (minus U W)) (times W (times (minus s t) (q10 rationals t s)))) M0))
        (times (negative (times (minus s t) (q00 rationals t s))) P1))
        (times (plus (times (w11 rationals s) (minus U W)) (times W (times (minus s t) (q11 rationals t s)))) M1)
    unfolding Exact.hermite
    change =
        ring (t ∷ s ∷ W ∷ U ∷ P0 ∷ M0 ∷ P1 ∷ M1 ∷ [])
        (sub (blend_term (var 3) y) (blend_term (var 2) x))
        (add (add (add (mul (mul (sub y x) (q00 terms x y)) (var 4))
        (mul (add (mul (w10 terms y) (sub (var 3) (var 2))) (mul (var 2) (mul (sub y x) (q10 terms x y)))) (var 5)))
        (mul (neg (mul (sub y x) (q00 terms x y))) (var 6)))
        (mul (add (mul (w11 terms y) (sub (var 3) (var 2))) (mul (var 2) (mul (sub y x) (q11 terms x y)))) (var 7)))
        tt tt tt
      where
        blend_term : Term → Term → Term
        blend_term w r = Exact.hermite terms (var 4) (var 5) (var 6) (var 7) w r

    pub moved_near : Near (Exact.hermite rationals P0 M0 P1 M1 U s) (Exact.hermite rationals P0 M0 P1 M1 W t)
        (moved_by rationals d e W A0 B0 A1 B1)
    moved_near =
        let step = off s t d fraction in
        let stretch = off U W e width in
        on _ _ _
        (subst (λ z. Within z (moved_by rationals d e W A0 B0 A1 B1)) (sym change)
        (within_plus _ _ _ _
        (within_plus _ _ _ _
        (within_plus _ _ _ _
        (within_times _ _ _ _ (within_times _ _ _ _ step within_q00) p0)
        (within_times _ _ _ _
        (within_plus _ _ _ _ (within_times _ _ _ _ within_w10 stretch) (within_times _ _ _ _ wide (within_times _ _ _ _ step within_q10)))
        m0))
        (within_times _ _ _ _ (within_negative _ _ (within_times _ _ _ _ step within_q00)) p1))
        (within_times _ _ _ _
        (within_plus _ _ _ _ (within_times _ _ _ _ within_w11 stretch) (within_times _ _ _ _ wide (within_times _ _ _ _ step within_q11)))
        m1)))

-- the rules' value in a cell of one axis, between its knots x and y at a point p from x on: values p0, p1 and slopes m0, m1 at the knots
module _
    (x p y : Float) (x_fits : T (fits binary64 x)) (p_fits : T (fits binary64 p)) (y_fits : T (fits binary64 y))
    (x_finite : finite x ≡ true) (p_finite : finite p ≡ true) (y_finite : finite y ≡ true)
    (above : le x p ≡ true) (wide : lt x y ≡ true) (under : le p y ≡ true)
    (first : finite (p ⊖ x) ≡ true) (second : finite (y ⊖ x) ≡ true) (whole : finite ((p ⊖ x) ⊘ (y ⊖ x)) ≡ true) where
  abbrev pub D : ℚ
  D = minus (value p) (value x)

  abbrev pub H : ℚ
  H = minus (value y) (value x)

  pub rising : Positive H
  rising = less_is_less x y x_finite y_finite wide

  low : Least D
  low = at_most x p x_finite p_finite above

  high : Least (minus H D)
  high =
      subst Least
      (ring (value x ∷ value p ∷ value y ∷ []) (sub (var 2) (var 1)) (sub (sub (var 2) (var 0)) (sub (var 1) (var 0))) tt tt tt)
      (at_most p y p_finite y_finite under)

  places : place_in binary64 p ≤ place_in binary64 y
  places =
      leb-true (place_in binary64 p) (place_in binary64 y)
      (sym (le_places binary64 p y p_fits y_fits (no_nan p p_finite) (no_nan y y_finite)) ∙ under)

  pub fraction_off : Near (value ((p ⊖ x) ⊘ (y ⊖ x))) (over D H) (amount 3074)
  fraction_off =
      fraction_near p x y p_fits x_fits y_fits (passes _ p_finite) (passes _ x_finite) (passes _ y_finite) low high rising
      (passes _ first) (passes _ second) (passes _ whole)

  pub width_off : Near (value (y ⊖ x)) H (times u H)
  width_off =
      sub_bound binary64 y x y_fits x_fits (passes _ y_finite) (passes _ x_finite) (passes _ second) H
      (within_self H (positive_least _ rising))

  -- at the lower knot itself the fraction is nought, and exact
  module _ (at_knot : lt x p ≡ false) where
    none : D ≡ number 0
    none =
        least_both D low
        (subst Least (ring (value x ∷ value p ∷ []) (sub (var 0) (var 1)) (neg (sub (var 1) (var 0))) tt tt tt)
        (not_less x p x_finite p_finite at_knot))

    from_knot : Near (value (p ⊖ x)) (number 0) (times u (number 0))
    from_knot =
        subst (λ z. Near (value (p ⊖ x)) z (times u z)) none
        (sub_bound binary64 p x p_fits x_fits (passes _ p_finite) (passes _ x_finite) (passes _ first) D (within_self D low))

    difference_nought : value (p ⊖ x) ≡ number 0
    difference_nought =
        least_both _
        (subst Least (ring (value (p ⊖ x) ∷ u ∷ []) (sub (add (var 0) (mul (var 1) t0)) t0) (var 0) tt tt tt) from_knot.above)
        (subst Least (ring (value (p ⊖ x) ∷ u ∷ []) (sub (add t0 (mul (var 1) t0)) (var 0)) (neg (var 0)) tt tt tt) from_knot.under)

    fraction_nought : value ((p ⊖ x) ⊘ (y ⊖ x)) ≡ number 0
    fraction_nought =
        div_nought binary64 (p ⊖ x) (y ⊖ x) (passes _ first) (passes _ second) (passes _ whole) difference_nought

  pub s_low : Least (value ((p ⊖ x) ⊘ (y ⊖ x)))
  s_low = go (lt x p) refl
    where
      go : (b : Bool) → lt x p ≡ b → Least (value ((p ⊖ x) ⊘ (y ⊖ x)))
      go true e = fraction_at_least_nought x p y x_fits p_fits y_fits x_finite p_finite y_finite e wide places first second whole
      go false e = subst Least (sym (fraction_nought e)) (least_number 0)

  pub s_high : Least (minus (number 1) (value ((p ⊖ x) ⊘ (y ⊖ x))))
  s_high = go (lt x p) refl
    where
      go : (b : Bool) → lt x p ≡ b → Least (minus (number 1) (value ((p ⊖ x) ⊘ (y ⊖ x))))
      go true e = fraction_at_most_one x p y x_fits p_fits y_fits x_finite p_finite y_finite e wide places first second whole
      go false e =
          subst (λ z. Least (minus (number 1) z)) (sym (fraction_nought e)) (subst Least (ring [] t1 (sub t1 t0) tt tt tt) (least_number 1))

  pub t_low : Least (over D H)
  t_low = least_over _ _ low rising

  pub t_high : Least (minus (number 1) (over D H))
  t_high =
      one_or_less p x y p_fits x_fits y_fits (passes _ p_finite) (passes _ x_finite) (passes _ y_finite) low high rising

  pub value_near : (p0 m0 p1 m1 : Float) → T (fits binary64 p0) → T (fits binary64 m0) → T (fits binary64 p1) → T (fits binary64 m1)
      → T (finite (Rules.hermite p0 m0 p1 m1 (y ⊖ x) ((p ⊖ x) ⊘ (y ⊖ x))))
      → Near (value (Rules.hermite p0 m0 p1 m1 (y ⊖ x) ((p ⊖ x) ⊘ (y ⊖ x))))
      (Exact.hermite rationals (value p0) (value m0) (value p1) (value m1) H (over D H))
      (plus (moved_by rationals (amount 3074) (times u H) H (size p0) (size m0) (size p1) (size m1))
      (plus (times k (plus (plus (size p0) (size p1)) (times (size (y ⊖ x)) (plus (size m0) (size m1)))))
      (times (times j v) (plus (plus (number 1) (size m0)) (size m1)))))
  value_near p0 m0 p1 m1 a b c d good =
      near_through _ _ _ _ _
      (hermite_near p0 m0 p1 m1 (y ⊖ x) ((p ⊖ x) ⊘ (y ⊖ x)) a b c d (sub-fits binary64 y x)
      (div-fits binary64 (p ⊖ x) (y ⊖ x)) s_low s_high good)
      (moved_near (over D H) (value ((p ⊖ x) ⊘ (y ⊖ x))) t_low t_high s_low s_high H (value (y ⊖ x)) (amount 3074) (times u H)
      (value p0) (value m0) (value p1) (value m1) (size p0) (size m0) (size p1) (size m1) fraction_off width_off
      (within_self H (positive_least _ rising)) (within_size p0) (within_size m0) (within_size p1) (within_size m1))
