-- The four weights of the blend at a fraction between nought and one: none is larger than one, and how far each lies from the exact one.
use mathlib.Core.Path.{◌≡◌, refl, sym, ap, ◌∙◌, subst}
use mathlib.Core.List.{[], ◌∷◌}
use mathlib.Core.Quot.{sound}
use Prim.Native.Nat.{ℕ, ◌^◌, ◌<◌}
use lib.Dec.{T, leb→le}
use lib.Pow.{pow_pos}
use lib.Ieee.{Float, binary64, neg, fits}
use lib.Ieee as Ieee
use lib.Ieee.Bits.{of_bits-fits}
use lib.Ieee.Fits.{neg-fits}
use lib.Ieee.Scale.{finite}
use Rattle.exact_solver.specs.Expressions as Expressions
use Rattle.exact_solver.specs.Expressions.{Term, var, t0, t1, t2, t3, add, sub, mul, divides, same, meaning}
use Rattle.exact_rationals.specs.Rationals.{ℚ, mk, number, rationals, plus, minus, times, negative, Least}
use Rattle.exact_rationals.specs.Values.{value}
use Rattle.exact_rounding.specs.Near.{Near, Within}
use Rattle.exact_rounding.specs.Errors as Errors
use Rattle.exact_rationals.proofs.Order.{least_plus, least_times, ring}
use Rattle.exact_rounding.proofs.Operations.{value_neg}
use Rattle.exact_rounding.proofs.Approx.{
  Approx,
  u,
  v,
  approx_add,
  approx_sub,
  approx_mul,
  approx_wider,
  within_times,
  within_negative,
  near_same,
  add_finite,
  sub_finite,
  mul_finite,
}
use Rattle.rules.specs.Numbers.{◌⊕◌, ◌⊖◌, ◌⊗◌, one, two, three}

pub amount_below : 0 < 2 ^ 63
amount_below = pow_pos 63

-- so many times 2 to the -63: 1024 are the share of one rounding
abbrev pub amount : ℕ → ℚ
amount k = mk (record { p = k; n = 0; d = 2 ^ 63; below = amount_below })

pub value_one : value one ≡ number 1
unfolding Ieee.of_bits number
value_one = sound refl

pub value_two : value two ≡ number 2
unfolding Ieee.of_bits number
value_two = sound refl

pub value_three : value three ≡ number 3
unfolding Ieee.of_bits number
value_three = sound refl

check_t2 : Least (minus (amount 1025) (Errors.product_error rationals u v (number 1)
    (Errors.cross rationals (number 1) (number 0) (number 1) (number 0))))
unfolding Least minus plus times negative number
check_t2 = leb→le _ _ tt

check_t3 : Least (minus (amount 2050) (Errors.product_error rationals u v (number 1)
    (Errors.cross rationals (number 1) (amount 1025) (number 1) (number 0))))
unfolding Least minus plus times negative number
check_t3 = leb→le _ _ tt

check_w2 : Least (minus (amount 6149) (Errors.product_error rationals u v (number 2)
    (Errors.cross rationals (number 2) (number 0) (number 1) (amount 2050))))
unfolding Least minus plus times negative number
check_w2 = leb→le _ _ tt

check_w3 : Least (minus (amount 6148) (Errors.product_error rationals u v (number 3)
    (Errors.cross rationals (number 3) (number 0) (number 1) (amount 1025))))
unfolding Least minus plus times negative number
check_w3 = leb→le _ _ tt

check_d00 : Least (minus (amount 13322) (Errors.sum_error rationals u (number 1) (amount 6149) (amount 6148)))
unfolding Least minus plus times negative number
check_d00 = leb→le _ _ tt

pub check_h00 : Least (minus (amount 14347) (Errors.sum_error rationals u (number 1) (amount 13322) (number 0)))
unfolding Least minus plus times negative number
check_h00 = leb→le _ _ tt

check_y2 : Least (minus (amount 4099) (Errors.product_error rationals u v (number 2)
    (Errors.cross rationals (number 2) (number 0) (number 1) (amount 1025))))
unfolding Least minus plus times negative number
check_y2 = leb→le _ _ tt

check_d10 : Least (minus (amount 7174) (Errors.sum_error rationals u (number 1) (amount 2050) (amount 4099)))
unfolding Least minus plus times negative number
check_d10 = leb→le _ _ tt

check_h10 : Least (minus (amount 8199) (Errors.sum_error rationals u (number 1) (amount 7174) (number 0)))
unfolding Least minus plus times negative number
check_h10 = leb→le _ _ tt

check_h11 : Least (minus (amount 4100) (Errors.sum_error rationals u (number 1) (amount 2050) (amount 1025)))
unfolding Least minus plus times negative number
check_h11 = leb→le _ _ tt

least_nought : Least (number 0)
unfolding Least number
least_nought = leb→le _ _ tt

least_one : Least (number 1)
unfolding Least number
least_one = leb→le _ _ tt

least_two : Least (number 2)
unfolding Least number
least_two = leb→le _ _ tt

least_three : Least (number 3)
unfolding Least number
least_three = leb→le _ _ tt

-- a number of nought or more is within itself
pub within_self : (b : ℚ) → Least b → Within b b
within_self b h =
    record {
      under = subst Least (ring (b ∷ []) t0 (sub (var 0) (var 0)) tt tt tt) least_nought;
      above = least_plus _ _ h h;
    }

-- a float that is its number
pub approx_exact : (x : Float) (b : ℚ) → T (fits binary64 x) → Within (value x) b → Approx x (value x) b (number 0)
approx_exact x b f w = record { fits = f; within = w; near = near_same _ _ least_nought }

approx_two : Approx two (number 2) (number 2) (number 0)
approx_two =
    record {
      fits = of_bits-fits binary64 _;
      within = within_self _ least_two;
      near = subst (λ z. Near z (number 2) (number 0))
          (sym value_two) (near_same _ _ least_nought);
    }

approx_three : Approx three (number 3) (number 3) (number 0)
approx_three =
    record {
      fits = of_bits-fits binary64 _;
      within = within_self _ least_three;
      near = subst (λ z. Near z (number 3) (number 0))
          (sym value_three) (near_same _ _ least_nought);
    }

pub approx_one : Approx one (number 1) (number 1) (number 0)
approx_one =
    record {
      fits = of_bits-fits binary64 _;
      within = within_self _ least_one;
      near = subst (λ z. Near z (number 1) (number 0))
          (sym value_one) (near_same _ _ least_nought);
    }

approx_minus_two : Approx (neg two) (negative (number 2)) (number 2) (number 0)
approx_minus_two =
    record {
      fits = neg-fits binary64 two (of_bits-fits binary64 _);
      within = within_negative _ _ (within_self _ least_two);
      near =
          subst (λ z. Near z (negative (number 2)) (number 0)) (sym (value_neg two ∙ ap negative value_two)) (near_same _ _ least_nought);
    }

abbrev x : Term
x = var 0

abbrev s : Term
s = sub t1 (var 0)

module _ (t : Float) (good : T (fits binary64 t)) (low : Least (value t)) (high : Least (minus (number 1) (value t))) where
  abbrev X : ℚ
  X = value t

  -- products that are nought or more
  sq : Least (times X X)
  sq = least_times _ _ low low

  rest_sq : Least (times (minus (number 1) X) (minus (number 1) X))
  rest_sq = least_times _ _ high high

  -- t²(1 + 2(1 - t)) and (1 - t)²(1 + 2t), t²(1 + (1 - t)), t(1 - t)²
  rising : Least (times (times X X) (plus (number 1) (times (number 2) (minus (number 1) X))))
  rising = least_times _ _ sq (least_plus _ _ least_one (least_times _ _ least_two high))

  falling : Least (times (times (minus (number 1) X) (minus (number 1) X)) (plus (number 1) (times (number 2) X)))
  falling = least_times _ _ rest_sq (least_plus _ _ least_one (least_times _ _ least_two low))

  bulge : Least (times (times X X) (plus (number 1) (minus (number 1) X)))
  bulge = least_times _ _ sq (least_plus _ _ least_one high)

  hump : Least (times X (times (minus (number 1) X) (minus (number 1) X)))
  hump = least_times _ _ low rest_sq

  abbrev rising_term : Term
  rising_term = mul (mul x x) (add t1 (mul t2 s))

  abbrev falling_term : Term
  falling_term = mul (mul s s) (add t1 (mul t2 x))

  abbrev bulge_term : Term
  bulge_term = mul (mul x x) (add t1 s)

  abbrev hump_term : Term
  hump_term = mul x (mul s s)

  within_t : Within X (number 1)
  within_t = record { under = high; above = least_plus _ _ least_one low }

  within_t2 : Within (times X X) (number 1)
  within_t2 = subst (λ z. Within (times X X) z) (ring [] (mul t1 t1) t1 tt tt tt) (within_times _ _ _ _ within_t within_t)

  within_t3 : Within (times (times X X) X) (number 1)
  within_t3 = subst (λ z. Within (times (times X X) X) z) (ring [] (mul t1 t1) t1 tt tt tt) (within_times _ _ _ _ within_t2 within_t)

  within_w2 : Within (times (number 2) (times (times X X) X)) (number 2)
  within_w2 =
      subst (λ z. Within (times (number 2) (times (times X X) X)) z) (ring [] (mul t2 t1) t2 tt tt tt)
      (within_times _ _ _ _ (within_self _ least_two) within_t3)

  within_w2' : Within (times (negative (number 2)) (times (times X X) X)) (number 2)
  within_w2' =
      subst (λ z. Within (times (negative (number 2)) (times (times X X) X)) z) (ring [] (mul t2 t1) t2 tt tt tt)
      (within_times _ _ _ _ (within_negative _ _ (within_self _ least_two)) within_t3)

  within_w3 : Within (times (number 3) (times X X)) (number 3)
  within_w3 =
      subst (λ z. Within (times (number 3) (times X X)) z) (ring [] (mul t3 t1) t3 tt tt tt)
      (within_times _ _ _ _ (within_self _ least_three) within_t2)

  within_y2 : Within (times (number 2) (times X X)) (number 2)
  within_y2 =
      subst (λ z. Within (times (number 2) (times X X)) z) (ring [] (mul t2 t1) t2 tt tt tt)
      (within_times _ _ _ _ (within_self _ least_two) within_t2)

  abbrev by : (a : Term) (b : Term) → T (divides 0 a) → T (divides 0 b) → T (same a b) → Least (meaning rationals (X ∷ []) a)
      → Least (meaning rationals (X ∷ []) b)
  by a b d e f h = subst Least (ring (X ∷ []) a b d e f) h

  abbrev pub exact_d00 : ℚ
  exact_d00 = minus (times (number 2) (times (times X X) X)) (times (number 3) (times X X))

  pub within_d00 : Within exact_d00 (number 1)
  within_d00 =
      record {
        under =
            by (add t1 rising_term) (sub t1 (sub (mul t2 (mul (mul x x) x)) (mul t3 (mul x x)))) tt tt tt (least_plus _ _ least_one rising);
        above = by (falling_term) (add t1 (sub (mul t2 (mul (mul x x) x)) (mul t3 (mul x x)))) tt tt tt (falling);
      }

  abbrev pub exact_h00 : ℚ
  exact_h00 = plus (minus (times (number 2) (times (times X X) X)) (times (number 3) (times X X))) (number 1)

  pub within_h00 : Within exact_h00 (number 1)
  within_h00 =
      record {
        under = by (rising_term) (sub t1 (add (sub (mul t2 (mul (mul x x) x)) (mul t3 (mul x x))) t1)) tt tt tt (rising);
        above =
            by (add t1 falling_term) (add t1 (add (sub (mul t2 (mul (mul x x) x)) (mul t3 (mul x x))) t1)) tt tt tt
            (least_plus _ _ least_one falling);
      }

  abbrev pub exact_d10 : ℚ
  exact_d10 = minus (times (times X X) X) (times (number 2) (times X X))

  pub within_d10 : Within exact_d10 (number 1)
  within_d10 =
      record {
        under = by (add t1 bulge_term) (sub t1 (sub (mul (mul x x) x) (mul t2 (mul x x)))) tt tt tt (least_plus _ _ least_one bulge);
        above = by (add s hump_term) (add t1 (sub (mul (mul x x) x) (mul t2 (mul x x)))) tt tt tt (least_plus _ _ high hump);
      }

  abbrev pub exact_h10 : ℚ
  exact_h10 = plus (minus (times (times X X) X) (times (number 2) (times X X))) X

  pub within_h10 : Within exact_h10 (number 1)
  within_h10 =
      record {
        under = by (add s bulge_term) (sub t1 (add (sub (mul (mul x x) x) (mul t2 (mul x x))) x)) tt tt tt (least_plus _ _ high bulge);
        above = by (add t1 hump_term) (add t1 (add (sub (mul (mul x x) x) (mul t2 (mul x x))) x)) tt tt tt (least_plus _ _ least_one hump);
      }

  abbrev pub exact_h01 : ℚ
  exact_h01 = plus (times (negative (number 2)) (times (times X X) X)) (times (number 3) (times X X))

  pub within_h01 : Within exact_h01 (number 1)
  within_h01 =
      record {
        under = by (falling_term) (sub t1 (add (mul (Expressions.neg t2) (mul (mul x x) x)) (mul t3 (mul x x)))) tt tt tt (falling);
        above =
            by (add t1 rising_term) (add t1 (add (mul (Expressions.neg t2) (mul (mul x x) x)) (mul t3 (mul x x)))) tt tt tt
            (least_plus _ _ least_one rising);
      }

  abbrev pub exact_h11 : ℚ
  exact_h11 = minus (times (times X X) X) (times X X)

  pub within_h11 : Within exact_h11 (number 1)
  within_h11 =
      record {
        under =
            by (add t1 (mul (mul x x) s)) (sub t1 (sub (mul (mul x x) x) (mul x x))) tt tt tt
            (least_plus _ _ least_one (least_times _ _ sq high));
        above =
            by (add (mul s (add t1 x)) (mul (mul x x) x)) (add t1 (sub (mul (mul x x) x) (mul x x))) tt tt tt
            (least_plus _ _ (least_times _ _ high (least_plus _ _ least_one low)) (least_times _ _ sq low));
      }

  approx_t : Approx t X (number 1) (number 0)
  approx_t = approx_exact t (number 1) good within_t

  approx_t2 : T (finite (t ⊗ t)) → Approx (t ⊗ t) (times X X) (number 1) (amount 1025)
  approx_t2 f =
      approx_wider _ _ _ _ _ (approx_mul t t X (number 1) (number 0) X (number 1) (number 0) approx_t approx_t (number 1) f within_t2)
      check_t2

  approx_t3 : T (finite (t ⊗ t ⊗ t)) → Approx (t ⊗ t ⊗ t) (times (times X X) X) (number 1) (amount 2050)
  approx_t3 f =
      approx_wider _ _ _ _ _
      (approx_mul (t ⊗ t) t (times X X) (number 1) (amount 1025) X (number 1) (number 0) (approx_t2 (mul_finite (t ⊗ t) t f).0) approx_t
      (number 1) f within_t3) check_t3

  approx_w2 : T (finite (two ⊗ (t ⊗ t ⊗ t))) → Approx (two ⊗ (t ⊗ t ⊗ t)) (times (number 2) (times (times X X) X)) (number 2) (amount 6149)
  approx_w2 f =
      approx_wider _ _ _ _ _
      (approx_mul two (t ⊗ t ⊗ t) (number 2) (number 2) (number 0) (times (times X X) X) (number 1) (amount 2050) approx_two
      (approx_t3 (mul_finite two (t ⊗ t ⊗ t) f).1) (number 2) f within_w2) check_w2

  approx_w2' : T (finite (neg two ⊗ (t ⊗ t ⊗ t)))
      → Approx (neg two ⊗ (t ⊗ t ⊗ t)) (times (negative (number 2)) (times (times X X) X)) (number 2) (amount 6149)
  approx_w2' f =
      approx_wider _ _ _ _ _
      (approx_mul (neg two) (t ⊗ t ⊗ t) (negative (number 2)) (number 2) (number 0) (times (times X X) X) (number 1)
      (amount 2050) approx_minus_two (approx_t3 (mul_finite (neg two) (t ⊗ t ⊗ t) f).1) (number 2) f within_w2') check_w2

  approx_w3 : T (finite (three ⊗ (t ⊗ t))) → Approx (three ⊗ (t ⊗ t)) (times (number 3) (times X X)) (number 3) (amount 6148)
  approx_w3 f =
      approx_wider _ _ _ _ _
      (approx_mul three (t ⊗ t) (number 3) (number 3) (number 0) (times X X) (number 1) (amount 1025) approx_three
      (approx_t2 (mul_finite three (t ⊗ t) f).1) (number 3) f within_w3) check_w3

  approx_y2 : T (finite (two ⊗ (t ⊗ t))) → Approx (two ⊗ (t ⊗ t)) (times (number 2) (times X X)) (number 2) (amount 4099)
  approx_y2 f =
      approx_wider _ _ _ _ _
      (approx_mul two (t ⊗ t) (number 2) (number 2) (number 0) (times X X) (number 1) (amount 1025) approx_two
      (approx_t2 (mul_finite two (t ⊗ t) f).1) (number 2) f within_y2) check_y2

  abbrev pub g00 : Float
  g00 = two ⊗ (t ⊗ t ⊗ t) ⊖ three ⊗ (t ⊗ t)

  abbrev pub f00 : Float
  f00 = g00 ⊕ one

  abbrev pub g10 : Float
  g10 = (t ⊗ t ⊗ t) ⊖ two ⊗ (t ⊗ t)

  abbrev pub f10 : Float
  f10 = g10 ⊕ t

  abbrev pub f01 : Float
  f01 = neg two ⊗ (t ⊗ t ⊗ t) ⊕ three ⊗ (t ⊗ t)

  abbrev pub f11 : Float
  f11 = (t ⊗ t ⊗ t) ⊖ (t ⊗ t)

  pub approx_d00 : T (finite g00) → Approx g00 exact_d00 (number 1) (amount 13322)
  approx_d00 f =
      let h = sub_finite (two ⊗ (t ⊗ t ⊗ t)) (three ⊗ (t ⊗ t)) f in
      approx_wider _ _ _ _ _
      (approx_sub (two ⊗ (t ⊗ t ⊗ t)) (three ⊗ (t ⊗ t)) (times (number 2) (times (times X X) X)) (number 2) (amount 6149)
      (times (number 3) (times X X)) (number 3) (amount 6148) (approx_w2 h.0) (approx_w3 h.1) (number 1) f within_d00) check_d00

  approx_d10 : T (finite g10) → Approx g10 exact_d10 (number 1) (amount 7174)
  approx_d10 f =
      let h = sub_finite (t ⊗ t ⊗ t) (two ⊗ (t ⊗ t)) f in
      approx_wider _ _ _ _ _
      (approx_sub (t ⊗ t ⊗ t) (two ⊗ (t ⊗ t)) (times (times X X) X) (number 1) (amount 2050) (times (number 2) (times X X)) (number 2)
      (amount 4099) (approx_t3 h.0) (approx_y2 h.1) (number 1) f within_d10) check_d10

  pub approx_h10 : T (finite f10) → Approx f10 exact_h10 (number 1) (amount 8199)
  approx_h10 f =
      approx_wider _ _ _ _ _
      (approx_add g10 t exact_d10 (number 1) (amount 7174) X (number 1) (number 0) (approx_d10 (add_finite g10 t f).0) approx_t
      (number 1) f within_h10) check_h10

  pub approx_h01 : T (finite f01) → Approx f01 exact_h01 (number 1) (amount 13322)
  approx_h01 f =
      let h = add_finite (neg two ⊗ (t ⊗ t ⊗ t)) (three ⊗ (t ⊗ t)) f in
      approx_wider _ _ _ _ _
      (approx_add (neg two ⊗ (t ⊗ t ⊗ t)) (three ⊗ (t ⊗ t)) (times (negative (number 2)) (times (times X X) X)) (number 2) (amount 6149)
      (times (number 3) (times X X)) (number 3) (amount 6148) (approx_w2' h.0) (approx_w3 h.1) (number 1) f within_h01) check_d00

  pub approx_h11 : T (finite f11) → Approx f11 exact_h11 (number 1) (amount 4100)
  approx_h11 f =
      let h = sub_finite (t ⊗ t ⊗ t) (t ⊗ t) f in
      approx_wider _ _ _ _ _
      (approx_sub (t ⊗ t ⊗ t) (t ⊗ t) (times (times X X) X) (number 1) (amount 2050) (times X X) (number 1) (amount 1025) (approx_t3 h.0)
      (approx_t2 h.1) (number 1) f within_h11) check_h11
