-- One operation: the exact value of a sum, a difference, a product or a quotient of floats is that of their values, to within a share of
-- it, and for products and quotients a tiny number.
use mathlib.Core.Path.{◌≡◌, refl, sym, ap, ap₂, ◌∙◌, subst}
use mathlib.Core.Bool.{Bool, true, false, not, cond}
use mathlib.Core.List.{[], ◌∷◌}
use mathlib.Core.Quot.{sound}
use Prim.Native.Nat.{ℕ, zero, suc, ◌+◌, ◌-◌, ◌*◌, ◌^◌, ◌≤◌, ◌<◌}
use native.Mathlib.Nat.{mul-pos, mul_comm, add-mul, mul-sub}
use native.Mathlib.Omega.{arith}
use lib.Dec.{T, ltb, eqb, ltb→lt, nltb→le}
use lib.IntN.{ℤ, pos}
use lib.Ieee.{Float, nan, inf, fin, Format, prec, low, up, down, unlike, round, sum, fits}
use lib.Ieee as Ieee
use lib.Ieee.Fits.{up_pos}
use borrow.Author.Tests.{ne_eqb}
use lib.Ieee.Scale.{finite}
use Rattle.exact_solver.specs.Expressions.{var, add, sub, mul, div}
use Rattle.exact_solver.proofs.Solver.{solve}
use Rattle.exact_rationals.proofs.RationalLaws as Q
use Rattle.exact_rationals.specs.Rationals.{ℚ, number, rationals, plus, minus, times, over, negative, Positive, Least}
use Rattle.exact_rationals.proofs.OrderedField.{rationals_are_a_field}
use Rattle.base_floats.specs.Place.{magnitude}
use Rattle.base_floats.proofs.Rounding.{round_zero, zero_across}
use Rattle.base_floats.proofs.Units.{magnitude_across}
use Rattle.exact_rationals.specs.Values.{value, down_positive}
use Rattle.exact_rounding.specs.Near.{Near, Within, share_below, tiny_below, share, tiny}
use Rattle.exact_rationals.proofs.Order.{least_times, ring}
use Rattle.exact_rounding.proofs.Nearness.{near_wider}
use Rattle.exact_rounding.proofs.Rounded.{signed, below, round_near, round_near_whole}

share_least : (f : Format) → Least (share f)
unfolding Least
share_least f = omega arith

-- the error, as a share of the size and a tiny number
error_is : (a c H L : ℕ) (C : 0 < c) (h : 0 < 2 * H) (l : 0 < 2 * L) (D : 0 < 2 * H * (c * L))
    → signed false (a * L + H * c) (2 * H * (c * L)) D
    ≡ plus (times (signed false 1 (2 * H) h) (signed false a c C)) (signed false 1 (2 * L) l)
unfolding plus times
error_is a c H L C h l D = sound (omega arith)

whole_error_is : (a c H L : ℕ) (C : 0 < c) (h : 0 < 2 * H) (D : 0 < 2 * H * (c * L))
    → signed false (a * L) (2 * H * (c * L)) D ≡ times (signed false 1 (2 * H) h) (signed false a c C)
unfolding times
whole_error_is a c H L C h D = sound (omega arith)

flipped : (a c : ℕ) (C : 0 < c) (b : ℚ) → plus b (signed true a c C) ≡ minus b (signed false a c C)
unfolding minus negative
flipped a c C b = refl

-- the size of what is within b
size_under : (s : Bool) (a c : ℕ) (C : 0 < c) (b : ℚ) → Within (signed s a c C) b → Least (minus b (signed false a c C))
size_under false a c C b h = h.under
size_under true a c C b h = subst Least (flipped a c C b) h.above

module _ (f : Format) (s : Bool) (a c : ℕ) (C : 0 < c) (t : T (finite (round f s a c))) (b : ℚ) (w : Within (signed s a c C) b) where
  pub round_bound : Near (value (round f s a c)) (signed s a c C) (plus (times (share f) b) (tiny f))
  round_bound =
      near_wider _ _ _ _ (subst (Near (value (round f s a c)) (signed s a c C))
      (error_is a c (2 ^ (prec f - 1)) (2 ^ low f) C (share_below f) (tiny_below f) (below f s a c C t)) (round_near f s a c C t))
      (subst Least
      (ring (share f ∷ b ∷ signed false a c C ∷ tiny f ∷ []) (mul (var 0) (sub (var 1) (var 2)))
      (sub (add (mul (var 0) (var 1)) (var 3)) (add (mul (var 0) (var 2)) (var 3))) tt tt tt)
      (least_times _ _ (share_least f) (size_under s a c C b w)))

  pub round_bound_whole : (N : ℕ) → a * 2 ^ low f ≡ N * c → Near (value (round f s a c)) (signed s a c C) (times (share f) b)
  round_bound_whole N e =
      near_wider _ _ _ _ (subst (Near (value (round f s a c)) (signed s a c C))
      (whole_error_is a c (2 ^ (prec f - 1)) (2 ^ low f) C (share_below f) (below f s a c C t)) (round_near_whole f s a c C t N e))
      (subst Least
      (ring (share f ∷ b ∷ signed false a c C ∷ []) (mul (var 0) (sub (var 1) (var 2)))
      (sub (mul (var 0) (var 1)) (mul (var 0) (var 2))) tt tt tt)
      (least_times _ _ (share_least f) (size_under s a c C b w)))

-- ---- products

both_below : (e d : ℤ) → 0 < down e * down d
both_below e d = mul-pos (down_positive e) (down_positive d)

product_is : (s t : Bool) (a c b d : ℕ) (C : 0 < c) (D : 0 < d) (E : 0 < c * d)
    → times (signed s a c C) (signed t b d D) ≡ signed (unlike s t) (a * b) (c * d) E
unfolding times
product_is false false a c b d C D E = sound (omega arith)
product_is false true a c b d C D E = sound (omega arith)
product_is true false a c b d C D E = sound (omega arith)
product_is true true a c b d C D E = sound (omega arith)

value_signed : (s : Bool) (m : ℕ) (e : ℤ) → value (fin s m e) ≡ signed s (m * up e) (down e) (down_positive e)
value_signed true m e = refl
value_signed false m e = refl

pub mul_bound : (f : Format) (x y : Float) → T (finite x) → T (finite y) → T (finite (Ieee.mul f x y)) → (b : ℚ)
    → Within (times (value x) (value y)) b
    → Near (value (Ieee.mul f x y)) (times (value x) (value y)) (plus (times (share f) b) (tiny f))
unfolding Ieee.mul
mul_bound f nan y i j k b w = absurd i
mul_bound f (inf s) y i j k b w = absurd i
mul_bound f (fin s m e) nan i j k b w = absurd j
mul_bound f (fin s m e) (inf t) i j k b w = absurd j
mul_bound f (fin s m e) (fin t n d) i j k b w =
    let is : times (value (fin s m e)) (value (fin t n d))
    ≡ signed (unlike s t) (m * up e * (n * up d)) (down e * down d) (both_below e d) =
    ap₂ times (value_signed s m e) (value_signed t n d)
    ∙ product_is s t (m * up e) (down e) (n * up d) (down d) (down_positive e) (down_positive d) (both_below e d) in
    subst (λ z. Near (value (Ieee.mul f (fin s m e) (fin t n d))) z (plus (times (share f) b) (tiny f))) (sym is)
    (round_bound f (unlike s t) (m * up e * (n * up d)) (down e * down d) (both_below e d) k b (subst (λ z. Within z b) is w))

-- ---- sums

abbrev Whole : Format → ℕ → ℕ → Type 0
Whole f a c = (N : ℕ) × (a * 2 ^ low f ≡ N * c)

sub_mul : (a b c : ℕ) → (a - b) * c ≡ a * c - b * c
sub_mul a b c = mul_comm (a - b) c ∙ mul-sub c a b ∙ ap₂ (λ x y. x - y) (mul_comm c a) (mul_comm c b)

whole_plus : (f : Format) (a b c : ℕ) → Whole f a c → Whole f b c → Whole f (a + b) c
whole_plus f a b c (m, h) (n, k) = (m + n, add-mul a b (2 ^ low f) ∙ ap₂ (λ x y. x + y) h k ∙ sym (add-mul m n c))

whole_minus : (f : Format) (a b c : ℕ) → Whole f a c → Whole f b c → Whole f (a - b) c
whole_minus f a b c (m, h) (n, k) = (m - n, sub_mul a b (2 ^ low f) ∙ ap₂ (λ x y. x - y) h k ∙ sym (sub_mul m n c))

pub record Summed (f : Format) (s : Bool) (a : ℕ) (t : Bool) (b c : ℕ) (C : 0 < c) : Type 0 where
  pub sign : Bool
  pub over : ℕ
  pub rounds : sum f s a t b c ≡ round f sign over c
  pub exact : plus (signed s a c C) (signed t b c C) ≡ signed sign over c C
  pub whole : Whole f a c → Whole f b c → Whole f over c

less_left : (a b c : ℕ) (C : 0 < c) (g : a ≤ b) → plus (signed false a c C) (signed true b c C) ≡ signed true (b - a) c C
unfolding plus
less_left a b c C g = sound (go (b - a) (omega arith))
  where
    go : (k : ℕ) → b ≡ a + k → (a * c + 0 * c) * c + k * (c * c) ≡ 0 * (c * c) + (0 * c + b * c) * c
    go k e = rw e (omega arith)

less_right : (a b c : ℕ) (C : 0 < c) (g : b ≤ a) → plus (signed false a c C) (signed true b c C) ≡ signed false (a - b) c C
unfolding plus
less_right a b c C g = sound (go (a - b) (omega arith))
  where
    go : (k : ℕ) → a ≡ b + k → (a * c + 0 * c) * c + 0 * (c * c) ≡ k * (c * c) + (0 * c + b * c) * c
    go k e = rw e (omega arith)

zero_sign : (s : Bool) (a c : ℕ) (C : 0 < c) → a ≡ 0 → signed true a c C ≡ signed s a c C
zero_sign true a c C e = refl
zero_sign false a c C e = sound (rw e (omega arith))

alike : (s : Bool) (a b c : ℕ) (C : 0 < c) → plus (signed s a c C) (signed s b c C) ≡ signed s (a + b) c C
unfolding plus
alike true a b c C = sound (omega arith)
alike false a b c C = sound (omega arith)

summed : (f : Format) (s : Bool) (a : ℕ) (t : Bool) (b c : ℕ) (C : 0 < c) → Summed f s a t b c C
unfolding sum
summed f true a true b c C = record { sign = true; over = a + b; rounds = refl; exact = alike true a b c C; whole = whole_plus f a b c }
summed f false a false b c C = record { sign = false; over = a + b; rounds = refl; exact = alike false a b c C; whole = whole_plus f a b c }
summed f false a true b c C = go (ltb a b) refl (ltb→lt a b) (nltb→le a b)
  where
    go : (l : Bool) → ltb a b ≡ l → (T l → a < b) → (T (not l) → b ≤ a) → Summed f false a true b c C
    go true e h k =
        record {
          sign = true;
          over = b - a;
          rounds = rw e refl;
          exact = less_left a b c C (omega (arith, h tt));
          whole =
              λ x y. whole_minus f b a c y x;
        }
    go false e h k =
        record { sign = false; over = a - b; rounds = rw e refl; exact = less_right a b c C (k tt); whole = whole_minus f a b c }
summed f true a false b c C = go (ltb a b) refl (ltb→lt a b) (nltb→le a b) (ltb b a) refl (nltb→le b a)
  where
    go : (l : Bool) → ltb a b ≡ l → (T l → a < b) → (T (not l) → b ≤ a) → (r : Bool) → ltb b a ≡ r → (T (not r) → a ≤ b)
        → Summed f true a false b c C
    go true e h k r d g =
        record {
          sign = false;
          over = b - a;
          rounds = rw e refl;
          exact = Q.plus_comm _ _ ∙ less_right b a c C (omega (arith, h tt));
          whole =
              λ x y. whole_minus f b a c y x;
        }
    go false e h k true d g =
        record {
          sign = true;
          over = a - b;
          rounds = rw (e, d) refl;
          exact = Q.plus_comm _ _ ∙ less_left b a c C
              (k tt);
          whole = whole_minus f a b c;
        }
    go false e h k false d g =
        record {
          sign = false;
          over = a - b;
          rounds = rw (e, d) refl;
          exact = Q.plus_comm _ _ ∙ less_left b a c C (k tt) ∙ zero_sign false
              (a - b) c C (omega (arith, g tt));
          whole = whole_minus f a b c;
        }

wider_left : (s : Bool) (a c d : ℕ) (C : 0 < c) (D : 0 < c * d) → signed s a c C ≡ signed s (a * d) (c * d) D
wider_left true a c d C D = sound (omega arith)
wider_left false a c d C D = sound (omega arith)

wider_right : (s : Bool) (a c d : ℕ) (C : 0 < c) (D : 0 < d * c) → signed s a c C ≡ signed s (a * d) (d * c) D
wider_right true a c d C D = sound (omega arith)
wider_right false a c d C D = sound (omega arith)

pub add_bound : (f : Format) (x y : Float) → T (fits f x) → T (fits f y) → T (finite x) → T (finite y) → T (finite (Ieee.add f x y))
    → (b : ℚ) → Within (plus (value x) (value y)) b
    → Near (value (Ieee.add f x y)) (plus (value x) (value y)) (times (share f) b)
unfolding Ieee.add
add_bound f nan y v u i j k b w = absurd i
add_bound f (inf s) y v u i j k b w = absurd i
add_bound f (fin s m e) nan v u i j k b w = absurd j
add_bound f (fin s m e) (inf t) v u i j k b w = absurd j
add_bound f (fin s m e) (fin t n d) v u i j k b w =
    let c : ℕ = down e * down d in
    let p : ℕ = m * up e * down d in
    let q : ℕ = n * up d * down e in
    let C : 0 < c = both_below e d in
    let S : Summed f s p t q c C = summed f s p t q c C in
    let is : plus (value (fin s m e)) (value (fin t n d)) ≡ signed S.sign S.over c C =
    ap₂ plus (value_signed s m e ∙ wider_left s (m * up e) (down e) (down d) (down_positive e) C)
    (value_signed t n d ∙ wider_right t (n * up d) (down d) (down e) (down_positive d) C)
    ∙ S.exact in
    let W : Whole f S.over c =
    S.whole (magnitude f m e, magnitude_across f s m e d v)
    (magnitude f n d, magnitude_across f t n d e u ∙ ap (λ z. magnitude f n d * z) (mul_comm (down d) (down e))) in
    subst (λ z. Near (value (sum f s p t q c)) z (times (share f) b)) (sym is)
    (subst (λ z. Near (value z) (signed S.sign S.over c C) (times (share f) b)) (sym S.rounds)
    (round_bound_whole f S.sign S.over c C (subst (λ z. T (finite z)) S.rounds k) b (subst (λ z. Within z b) is w) W.0 W.1))

-- ---- differences and quotients

pub value_neg : (x : Float) → value (Ieee.neg x) ≡ negative (value x)
unfolding Ieee.neg negative number
value_neg nan = refl
value_neg (inf s) = refl
value_neg (fin true m e) = refl
value_neg (fin false m e) = refl

pub finite_neg : (x : Float) → T (finite x) → T (finite (Ieee.neg x))
unfolding Ieee.neg
finite_neg nan h = h
finite_neg (inf s) h = h
finite_neg (fin s m e) h = tt

pub fits_neg : (f : Format) (x : Float) → T (fits f x) → T (fits f (Ieee.neg x))
unfolding Ieee.neg fits
fits_neg f nan h = h
fits_neg f (inf s) h = h
fits_neg f (fin s zero e) h = h
fits_neg f (fin s (suc m) e) h = h

pub sub_bound : (f : Format) (x y : Float) → T (fits f x) → T (fits f y) → T (finite x) → T (finite y) → T (finite (Ieee.sub f x y))
    → (b : ℚ) → Within (minus (value x) (value y)) b
    → Near (value (Ieee.sub f x y)) (minus (value x) (value y)) (times (share f) b)
unfolding Ieee.sub
sub_bound f x y v u i j k b w =
    let is : plus (value x) (value (Ieee.neg y))
    ≡ minus (value x) (value y) = ap (plus (value x)) (value_neg y) ∙ sym (Q.minus_is (value x) (value y)) in
    subst (λ z. Near (value (Ieee.add f x (Ieee.neg y))) z (times (share f) b)) is
    (add_bound f x (Ieee.neg y) v (fits_neg f y u) i (finite_neg y j) k b (subst (λ z. Within z b) (sym is) w))

quotient_product : (s t : Bool) (a c b d : ℕ) (C : 0 < c) (D : 0 < d) (E : 0 < b * c)
    → times (signed (unlike s t) (a * d) (b * c) E) (signed t b d D) ≡ signed s a c C
unfolding times
quotient_product false false a c b d C D E = sound (omega arith)
quotient_product false true a c b d C D E = sound (omega arith)
quotient_product true false a c b d C D E = sound (omega arith)
quotient_product true true a c b d C D E = sound (omega arith)

quotient_is : (s t : Bool) (a c b d : ℕ) (C : 0 < c) (D : 0 < d) (E : 0 < b * c) → ¬ (signed t b d D ≡ number 0)
    → over (signed s a c C) (signed t b d D) ≡ signed (unlike s t) (a * d) (b * c) E
quotient_is s t a c b d C D E h =
    ap (λ z. over z (signed t b d D)) (sym (quotient_product s t a c b d C D E))
    ∙ solve rationals rationals_are_a_field 1 (signed t b d D ∷ signed (unlike s t) (a * d) (b * c) E ∷ []) (h, tt)
    (div (mul (var 1) (var 0)) (var 0)) (var 1) tt tt tt

never_zero : (t : Bool) (b d : ℕ) (D : 0 < d) → 0 < b → ¬ (signed t b d D ≡ number 0)
unfolding Positive negative number
never_zero false b d D h e = Q.positive_not_nought (signed false b d D) h e
never_zero true b d D h e = Q.positive_not_nought (signed false b d D) h (ap negative e)

quotient_below : (n : ℕ) (e d : ℤ) → 0 < suc n * up d * down e
quotient_below n e d = mul-pos (mul-pos (omega arith) (up_pos d)) (down_positive e)

div_rounds : (f : Format) (s : Bool) (m : ℕ) (e : ℤ) (t : Bool) (n : ℕ) (d : ℤ)
    → Ieee.div f (fin s m e) (fin t (suc n) d) ≡ round f (unlike s t) (m * up e * down d) (suc n * up d * down e)
unfolding Ieee.div
div_rounds f s m e t n d = rw (ne_eqb (suc n) 0 (λ z. omega arith)) refl

pub never_finite : (b : Bool) (s : Bool) → T (finite (cond b nan (inf s))) → ⊥
never_finite true s h = h
never_finite false s h = h

div_by_zero : (f : Format) (s : Bool) (m : ℕ) (e : ℤ) (t : Bool) (d : ℤ) → T (finite (Ieee.div f (fin s m e) (fin t zero d))) → ⊥
unfolding Ieee.div
div_by_zero f s m e t d h = never_finite (eqb m 0) (unlike s t) h

-- where the divisor is not nought, which is so where the result is finite
pub div_bound : (f : Format) (x y : Float) → T (finite x) → T (finite y) → T (finite (Ieee.div f x y)) → (b : ℚ)
    → Within (over (value x) (value y)) b
    → Near (value (Ieee.div f x y)) (over (value x) (value y)) (plus (times (share f) b) (tiny f))
div_bound f nan y i j k b w = absurd i
div_bound f (inf s) y i j k b w = absurd i
div_bound f (fin s m e) nan i j k b w = absurd j
div_bound f (fin s m e) (inf t) i j k b w = absurd j
div_bound f (fin s m e) (fin t zero d) i j k b w = absurd (div_by_zero f s m e t d k)
div_bound f (fin s m e) (fin t (suc n) d) i j k b w =
    let r : Float = round f (unlike s t) (m * up e * down d) (suc n * up d * down e) in
    let is : over (value (fin s m e)) (value (fin t (suc n) d))
    ≡ signed (unlike s t) (m * up e * down d) (suc n * up d * down e) (quotient_below n e d) =
    ap₂ over (value_signed s m e) (value_signed t (suc n) d)
    ∙ quotient_is s t (m * up e) (down e) (suc n * up d) (down d) (down_positive e) (down_positive d) (quotient_below n e d)
    (never_zero t (suc n * up d) (down d) (down_positive d) (mul-pos (omega arith) (up_pos d))) in
    subst (λ z. Near (value z) (over (value (fin s m e)) (value (fin t (suc n) d))) (plus (times (share f) b) (tiny f)))
    (sym (div_rounds f s m e t n d))
    (subst (λ z. Near (value r) z (plus (times (share f) b) (tiny f))) (sym is)
    (round_bound f (unlike s t) (m * up e * down d) (suc n * up d * down e) (quotient_below n e d)
    (subst (λ z. T (finite z)) (div_rounds f s m e t n d) k) b (subst (λ z. Within z b) is w)))

value_of_zero : (s : Bool) → value (fin s 0 (pos 0)) ≡ number 0
unfolding number
value_of_zero false = sound refl
value_of_zero true = sound refl

-- nought over a number is nought, without an error
pub div_nought : (f : Format) (x y : Float) → T (finite x) → T (finite y) → T (finite (Ieee.div f x y)) → value x ≡ number 0
    → value (Ieee.div f x y) ≡ number 0
div_nought f nan y i j k z = absurd i
div_nought f (inf s) y i j k z = absurd i
div_nought f (fin s m e) nan i j k z = absurd j
div_nought f (fin s m e) (inf t) i j k z = absurd j
div_nought f (fin s m e) (fin t zero d) i j k z = absurd (div_by_zero f s m e t d k)
div_nought f (fin s zero e) (fin t (suc n) d) i j k z =
    ap value
    (div_rounds f s zero e t n d
    ∙ ap (λ a. round f (unlike s t) a (suc n * up d * down e)) (zero_across (up e) (down d))
    ∙ round_zero f (unlike s t) (suc n * up d * down e) (quotient_below n e d))
    ∙ value_of_zero (unlike s t)
div_nought f (fin s (suc m) e) (fin t (suc n) d) i j k z =
    absurd
    (never_zero s (suc m * up e) (down e) (down_positive e) (mul-pos (omega arith) (up_pos e)) (sym (value_signed s (suc m) e) ∙ z))
