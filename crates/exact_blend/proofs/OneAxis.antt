-- The Hermite blend of two knots, each operation rounded, is the exact one to within 19 shares of what is blended and 5 tiny numbers.
use mathlib.Core.Path.{◌≡◌, subst}
use mathlib.Core.List.{[], ◌∷◌}
use lib.Dec.{T, leb→le}
use lib.Ieee.{Float, binary64, fits}
use lib.Ieee.Scale.{finite}
use Rattle.exact_solver.specs.Expressions.{var, terms, sub}
use Rattle.exact_rationals.specs.Rationals.{ℚ, number, rationals, plus, minus, times, negative, Least}
use Rattle.exact_rationals.specs.Values.{value}
use Rattle.exact_rounding.specs.Near.{Near, Within}
use Rattle.exact_rationals.proofs.Order.{least_plus, least_times, ring}
use Rattle.exact_rounding.proofs.Nearness.{near_wider}
use Rattle.exact_rounding.proofs.Approx.{
  Approx,
  u,
  v,
  approx_add,
  approx_mul,
  within_times,
  within_plus,
  bound_least,
  add_finite,
  mul_finite,
}
use Rattle.rules.specs.Numbers.{◌⊕◌, ◌⊗◌}
use Rattle.rules.specs.Query as Rules
use Rattle.exact_spline.specs.Query as Exact
use Rattle.exact_blend.specs.BlendErrors as Total
use Rattle.exact_blend.proofs.Weights.{
  amount,
  approx_exact,
  approx_h10,
  approx_h01,
  approx_h11,
  exact_h00,
  exact_h10,
  exact_h01,
  exact_h11,
  f00,
  f10,
  f01,
  f11,
}
use Rattle.exact_blend.proofs.FirstWeight.{approx_h00}

share00 : Least (minus (amount 19456) (Total.again rationals u
    (Total.again rationals u (Total.again rationals u (Total.again rationals u (amount 14347))))))
unfolding Least minus plus times negative number
share00 = leb→le _ _ tt

share10 : Least (minus (amount 19456) (Total.again rationals u
    (Total.again rationals u (Total.again rationals u (Total.again rationals u (Total.again rationals u (amount 8199)))))))
unfolding Least minus plus times negative number
share10 = leb→le _ _ tt

share01 : Least (minus (amount 19456) (Total.again rationals u (Total.again rationals u (Total.again rationals u (amount 13322)))))
unfolding Least minus plus times negative number
share01 = leb→le _ _ tt

share11 : Least (minus (amount 19456) (Total.again rationals u (Total.again rationals u (Total.again rationals u (amount 4100)))))
unfolding Least minus plus times negative number
share11 = leb→le _ _ tt

tiny10 : Least (minus (number 5) (Total.grown rationals u (Total.grown rationals u
    (Total.grown rationals u (Total.grown rationals u (number 1))))))
unfolding Least minus plus times negative number
tiny10 = leb→le _ _ tt

tiny11 : Least (minus (number 5) (Total.grown rationals u (Total.grown rationals u (number 1))))
unfolding Least minus plus times negative number
tiny11 = leb→le _ _ tt

tiny_all : Least (minus (number 5) (plus (plus (plus (Total.grown rationals u
    (Total.grown rationals u (Total.grown rationals u (number 1))))
    (Total.grown rationals u (Total.grown rationals u (Total.grown rationals u (number 1)))))
    (Total.grown rationals u (Total.grown rationals u (number 1)))) (Total.grown rationals u (number 1))))
unfolding Least minus plus times negative number
tiny_all = leb→le _ _ tt

least_v : Least v
unfolding Least
least_v = leb→le _ _ tt

left_over_is : (P0 M0 P1 M1 W : ℚ)
    → Total.left_over rationals u v (amount 14347) (amount 8199) (amount 13322) (amount 4100) P0 M0 P1 M1 W (amount 19456) (number 5)
    ≡ minus (Total.bound rationals (amount 19456) (number 5) v P0 M0 P1 M1 W)
    (Total.total rationals u v (amount 14347) (amount 8199) (amount 13322) (amount 4100) P0 M0 P1 M1 W)
left_over_is P0 M0 P1 M1 W =
    ring (u ∷ v ∷ (amount 14347) ∷ (amount 8199) ∷ (amount 13322) ∷ (amount 4100) ∷ P0 ∷ M0 ∷ P1 ∷ M1 ∷ W ∷ (amount 19456) ∷
    (number 5) ∷ [])
    (Total.left_over terms (var 0) (var 1) (var 2) (var 3) (var 4) (var 5) (var 6) (var 7) (var 8) (var 9) (var 10) (var 11) (var 12))
    (sub (Total.bound terms (var 11) (var 12) (var 1) (var 6) (var 7) (var 8) (var 9) (var 10))
    (Total.total terms (var 0) (var 1) (var 2) (var 3) (var 4) (var 5) (var 6) (var 7) (var 8) (var 9) (var 10)))
    tt tt tt

-- a blend at a fraction between nought and one, where it is finite: p0, m0, p1, m1 and the width are within P0, M0, P1, M1 and W
module _ (p0 m0 p1 m1 width t : Float) (P0 M0 P1 M1 W : ℚ)
    (p0_fits : T (fits binary64 p0)) (m0_fits : T (fits binary64 m0)) (p1_fits : T (fits binary64 p1)) (m1_fits : T (fits binary64 m1))
    (width_fits : T (fits binary64 width)) (t_fits : T (fits binary64 t))
    (p0_within : Within (value p0) P0) (m0_within : Within (value m0) M0) (p1_within : Within (value p1) P1)
    (m1_within : Within (value m1) M1)
    (width_within : Within (value width) W) (low : Least (value t)) (high : Least (minus (number 1) (value t)))
  where
    approx_00 : T (finite ((f00 t t_fits low high) ⊗ p0))
        → Approx ((f00 t t_fits low high) ⊗ p0) (times (exact_h00 t t_fits low high) (value p0)) (times (number 1) P0)
        (Total.first rationals u v (amount 14347) (amount 8199) (amount 13322) (amount 4100) P0 M0 P1 M1 W (amount 14347) P0)
    approx_00 f =
        let weight = approx_h00 t t_fits low high (mul_finite (f00 t t_fits low high) p0 f).0 in
        approx_mul (f00 t t_fits low high) p0 (exact_h00 t t_fits low high) (number 1) (amount 14347) (value p0) P0 (number 0) weight
        (approx_exact p0 P0 p0_fits p0_within) (times (number 1) P0) f (within_times _ _ _ _ weight.within p0_within)

    approx_01 : T (finite ((f01 t t_fits low high) ⊗ p1))
        → Approx ((f01 t t_fits low high) ⊗ p1) (times (exact_h01 t t_fits low high) (value p1)) (times (number 1) P1)
        (Total.first rationals u v (amount 14347) (amount 8199) (amount 13322) (amount 4100) P0 M0 P1 M1 W (amount 13322) P1)
    approx_01 f =
        let weight = approx_h01 t t_fits low high (mul_finite (f01 t t_fits low high) p1 f).0 in
        approx_mul (f01 t t_fits low high) p1 (exact_h01 t t_fits low high) (number 1) (amount 13322) (value p1) P1 (number 0) weight
        (approx_exact p1 P1 p1_fits p1_within) (times (number 1) P1) f (within_times _ _ _ _ weight.within p1_within)

    approx_wide_10 : T (finite ((f10 t t_fits low high) ⊗ width))
        → Approx ((f10 t t_fits low high) ⊗ width) (times (exact_h10 t t_fits low high) (value width)) (times (number 1) W)
        (Total.first rationals u v (amount 14347) (amount 8199) (amount 13322) (amount 4100) P0 M0 P1 M1 W (amount 8199) W)
    approx_wide_10 f =
        let weight = approx_h10 t t_fits low high (mul_finite (f10 t t_fits low high) width f).0 in
        approx_mul (f10 t t_fits low high) width (exact_h10 t t_fits low high) (number 1) (amount 8199) (value width) W (number 0) weight
        (approx_exact width W width_fits width_within) (times (number 1) W) f (within_times _ _ _ _ weight.within width_within)

    approx_10 : T (finite ((f10 t t_fits low high) ⊗ width ⊗ m0))
        → Approx ((f10 t t_fits low high) ⊗ width ⊗ m0) (times (times (exact_h10 t t_fits low high) (value width)) (value m0))
        (times (times (number 1) W) M0)
        (Total.second rationals u v (amount 14347) (amount 8199) (amount 13322) (amount 4100) P0 M0 P1 M1 W (amount 8199) M0)
    approx_10 f =
        let wide = approx_wide_10 (mul_finite ((f10 t t_fits low high) ⊗ width) m0 f).0 in
        approx_mul ((f10 t t_fits low high) ⊗ width) m0 _ (times (number 1) W) _ (value m0) M0 (number 0) wide
        (approx_exact m0 M0 m0_fits m0_within) (times (times (number 1) W) M0) f (within_times _ _ _ _ wide.within m0_within)

    approx_wide_11 : T (finite ((f11 t t_fits low high) ⊗ width))
        → Approx ((f11 t t_fits low high) ⊗ width) (times (exact_h11 t t_fits low high) (value width)) (times (number 1) W)
        (Total.first rationals u v (amount 14347) (amount 8199) (amount 13322) (amount 4100) P0 M0 P1 M1 W (amount 4100) W)
    approx_wide_11 f =
        let weight = approx_h11 t t_fits low high (mul_finite (f11 t t_fits low high) width f).0 in
        approx_mul (f11 t t_fits low high) width (exact_h11 t t_fits low high) (number 1) (amount 4100) (value width) W (number 0) weight
        (approx_exact width W width_fits width_within) (times (number 1) W) f (within_times _ _ _ _ weight.within width_within)

    approx_11 : T (finite ((f11 t t_fits low high) ⊗ width ⊗ m1))
        → Approx ((f11 t t_fits low high) ⊗ width ⊗ m1) (times (times (exact_h11 t t_fits low high) (value width)) (value m1))
        (times (times (number 1) W) M1)
        (Total.second rationals u v (amount 14347) (amount 8199) (amount 13322) (amount 4100) P0 M0 P1 M1 W (amount 4100) M1)
    approx_11 f =
        let wide = approx_wide_11 (mul_finite ((f11 t t_fits low high) ⊗ width) m1 f).0 in
        approx_mul ((f11 t t_fits low high) ⊗ width) m1 _ (times (number 1) W) _ (value m1) M1 (number 0) wide
        (approx_exact m1 M1 m1_fits m1_within) (times (times (number 1) W) M1) f (within_times _ _ _ _ wide.within m1_within)

    approx_sum1 : T (finite (((f00 t t_fits low high) ⊗ p0) ⊕ ((f10 t t_fits low high) ⊗ width ⊗ m0)))
        → Approx (((f00 t t_fits low high) ⊗ p0) ⊕ ((f10 t t_fits low high) ⊗ width ⊗ m0))
        (plus (times (exact_h00 t t_fits low high) (value p0)) (times (times (exact_h10 t t_fits low high) (value width)) (value m0)))
        (Total.size1 rationals u v (amount 14347) (amount 8199) (amount 13322) (amount 4100) P0 M0 P1 M1 W)
        (Total.sum1 rationals u v (amount 14347) (amount 8199) (amount 13322) (amount 4100) P0 M0 P1 M1 W)
    approx_sum1 f =
        let h = add_finite ((f00 t t_fits low high) ⊗ p0) ((f10 t t_fits low high) ⊗ width ⊗ m0) f in
        let a = approx_00 h.0 in
        let b = approx_10 h.1 in
        approx_add ((f00 t t_fits low high) ⊗ p0) ((f10 t t_fits low high) ⊗ width ⊗ m0) _ _ _ _ _ _ a b
        (Total.size1 rationals u v (amount 14347) (amount 8199) (amount 13322) (amount 4100) P0 M0 P1 M1 W) f
        (within_plus _ _ _ _ a.within b.within)

    approx_sum2 : T (finite (((f00 t t_fits low high) ⊗ p0) ⊕ ((f10 t t_fits low high) ⊗ width ⊗ m0) ⊕ ((f01 t t_fits low high) ⊗ p1)))
        → Approx (((f00 t t_fits low high) ⊗ p0) ⊕ ((f10 t t_fits low high) ⊗ width ⊗ m0) ⊕ ((f01 t t_fits low high) ⊗ p1))
        (plus (plus (times (exact_h00 t t_fits low high) (value p0)) (times (times (exact_h10 t t_fits low high) (value width)) (value m0)))
        (times (exact_h01 t t_fits low high) (value p1)))
        (Total.size2 rationals u v (amount 14347) (amount 8199) (amount 13322) (amount 4100) P0 M0 P1 M1 W)
        (Total.sum2 rationals u v (amount 14347) (amount 8199) (amount 13322) (amount 4100) P0 M0 P1 M1 W)
    approx_sum2 f =
        let h = add_finite (((f00 t t_fits low high) ⊗ p0) ⊕ ((f10 t t_fits low high) ⊗ width ⊗ m0)) ((f01 t t_fits low high) ⊗ p1) f in
        let a = approx_sum1 h.0 in
        let b = approx_01 h.1 in
        approx_add (((f00 t t_fits low high) ⊗ p0) ⊕ ((f10 t t_fits low high) ⊗ width ⊗ m0)) ((f01 t t_fits low high) ⊗ p1) _ _ _ _ _ _ a b
        (Total.size2 rationals u v (amount 14347) (amount 8199) (amount 13322) (amount 4100) P0 M0 P1 M1 W) f
        (within_plus _ _ _ _ a.within b.within)

    approx_sum3 : T (finite (((f00 t t_fits low high) ⊗ p0) ⊕ ((f10 t t_fits low high) ⊗ width ⊗ m0) ⊕ ((f01 t t_fits low high) ⊗ p1) ⊕
        ((f11 t t_fits low high) ⊗ width ⊗ m1))) → Approx
        (((f00 t t_fits low high) ⊗ p0) ⊕ ((f10 t t_fits low high) ⊗ width ⊗ m0) ⊕ ((f01 t t_fits low high) ⊗ p1) ⊕
        ((f11 t t_fits low high) ⊗ width ⊗ m1))
        (plus (plus
        (plus (times (exact_h00 t t_fits low high) (value p0)) (times (times (exact_h10 t t_fits low high) (value width)) (value m0)))
        (times (exact_h01 t t_fits low high) (value p1))) (times (times (exact_h11 t t_fits low high) (value width)) (value m1)))
        (Total.size3 rationals u v (amount 14347) (amount 8199) (amount 13322) (amount 4100) P0 M0 P1 M1 W)
        (Total.total rationals u v (amount 14347) (amount 8199) (amount 13322) (amount 4100) P0 M0 P1 M1 W)
    approx_sum3 f =
        let h = add_finite (((f00 t t_fits low high) ⊗ p0) ⊕ ((f10 t t_fits low high) ⊗ width ⊗ m0) ⊕ ((f01 t t_fits low high) ⊗ p1))
        ((f11 t t_fits low high) ⊗ width ⊗ m1) f in
        let a = approx_sum2 h.0 in
        let b = approx_11 h.1 in
        approx_add (((f00 t t_fits low high) ⊗ p0) ⊕ ((f10 t t_fits low high) ⊗ width ⊗ m0) ⊕ ((f01 t t_fits low high) ⊗ p1))
        ((f11 t t_fits low high) ⊗ width ⊗ m1) _ _ _ _ _ _ a b
        (Total.size3 rationals u v (amount 14347) (amount 8199) (amount 13322) (amount 4100) P0 M0 P1 M1 W) f
        (within_plus _ _ _ _ a.within b.within)

    left_over_least : Least
        (Total.left_over rationals u v (amount 14347) (amount 8199) (amount 13322) (amount 4100) P0 M0 P1 M1 W (amount 19456) (number 5))
    left_over_least =
        let a = bound_least _ _ p0_within in
        let b = bound_least _ _ m0_within in
        let c = bound_least _ _ p1_within in
        let d = bound_least _ _ m1_within in
        let w = bound_least _ _ width_within in
        least_plus _ _ (least_plus _ _ (least_plus _ _ (least_plus _ _ (least_plus _ _ (least_plus _ _
        (least_times _ _ share00 a) (least_times _ _ share10 (least_times _ _ w b))) (least_times _ _ share01 c))
        (least_times _ _ share11 (least_times _ _ w d)))
        (least_times _ _ tiny10 (least_times _ _ least_v b))) (least_times _ _ tiny11 (least_times _ _ least_v d)))
        (least_times _ _ tiny_all least_v)

    pub blend_near : T (finite (Rules.hermite p0 m0 p1 m1 width t))
        → Near (value (Rules.hermite p0 m0 p1 m1 width t))
        (Exact.hermite rationals (value p0) (value m0) (value p1) (value m1) (value width) (value t))
        (Total.bound rationals (amount 19456) (number 5) v P0 M0 P1 M1 W)
    unfolding Rules.hermite Exact.hermite
    blend_near f = near_wider _ _ _ _ (approx_sum3 f).near (subst Least (left_over_is P0 M0 P1 M1 W) left_over_least)
