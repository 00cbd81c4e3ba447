-- What the operations give where zero, one, or the same number twice stands among their operands.
use mathlib.Core.Path.{◌≡◌, refl, sym, ◌∙◌}
use mathlib.Core.Logic.{inl, inr}
use mathlib.Core.Bool.{Bool, true, false, not}
use Prim.Native.Nat.{ℕ, zero, suc, ◌*◌, ◌<◌, zero-le}
use native.Mathlib.Nat.{mul-one, one-mul, zero-add, add-zero, sub-zero, sub_self, zero-mul, mul-pos, zero-lt-suc, le_refl}
use native.Mathlib.Omega.{arith}
use lib.Dec.{T}
use lib.IntN.{ℤ, pos}
use borrow.Author.Tests.{lt-ltb, le-ltb, ne_eqb}
use lib.Ieee.{Float, nan, inf, fin, Format, binary32, binary64, up, down, unlike, round, sum, add, sub, mul, div, fits}
use lib.Ieee.Fits.{up_pos, down_pos}
use lib.Ieee.Scale.{finite, round_same}
use lib.Ieee.Positive.{positive}
use Rattle.base_floats.specs.Zeros.{Zero, Equal, one}
use Rattle.base_floats.proofs.Rounding.{round_zero, round_back}
use Rattle.base_floats.proofs.Equals.{never, fitting_zero}

-- ---- a sum with zero

sum_left_zero : (f : Format) (s t : Bool) (b c : ℕ) → 0 < b → sum f s 0 t b c ≡ round f t b c
unfolding sum
sum_left_zero f true true b c h = rw (zero-add b) refl
sum_left_zero f false false b c h = rw (zero-add b) refl
sum_left_zero f true false b c h = rw (lt-ltb 0 b h, sub-zero b) refl
sum_left_zero f false true b c h = rw (lt-ltb 0 b h, sub-zero b) refl

sum_right_zero : (f : Format) (s t : Bool) (a c : ℕ) → 0 < a → sum f s a t 0 c ≡ round f s a c
unfolding sum
sum_right_zero f true true a c h = rw (add-zero a) refl
sum_right_zero f false false a c h = rw (add-zero a) refl
sum_right_zero f true false a c h = rw (le-ltb a 0 zero-le, lt-ltb 0 a h, sub-zero a) refl
sum_right_zero f false true a c h = rw (le-ltb a 0 zero-le, sub-zero a) refl

sum_zeros : (f : Format) (s t : Bool) (c : ℕ) → 0 < c → Zero (sum f s 0 t 0 c)
unfolding sum
sum_zeros f true true c h = record { sign = true; is = round_zero f true c h }
sum_zeros f false false c h = record { sign = false; is = round_zero f false c h }
sum_zeros f true false c h = record { sign = false; is = round_zero f false c h }
sum_zeros f false true c h = record { sign = false; is = round_zero f false c h }

above_zero : (m : ℕ) (e : ℤ) → 0 < suc m * up e
above_zero m e = mul-pos (zero-lt-suc m) (up_pos e)

add_right : (f : Format) (s : Bool) (m : ℕ) (e : ℤ) (t : Bool) → add f (fin s m e) (fin t 0 (pos 0)) ≡ sum f s (m * up e) t 0 (down e)
unfolding add
add_right f s m e t = rw (mul-one (m * up e), zero-mul (down e), mul-one (down e)) refl

add_left : (f : Format) (s : Bool) (m : ℕ) (e : ℤ) (t : Bool) → add f (fin t 0 (pos 0)) (fin s m e) ≡ sum f t 0 s (m * up e) (down e)
unfolding add
add_left f s m e t = rw (mul-one (m * up e), zero-mul (down e), one-mul (down e)) refl

-- x + 0
pub add_zero_right : (f : Format) (x z : Float) → T (fits f x) → finite x ≡ true → Zero z → Equal (add f x z) x
add_zero_right f nan z t h k = never h
add_zero_right f (inf s) z t h k = never h
add_zero_right f (fin s zero e) z t h k =
    rw (k.is, add_right f s 0 e k.sign, zero-mul (up e)) (inr (sum_zeros f s k.sign (down e) (down_pos e), fitting_zero f s e t))
add_zero_right f (fin s (suc m) e) z t h k =
    rw (k.is, add_right f s (suc m) e k.sign)
    (inl (sum_right_zero f s k.sign (suc m * up e) (down e) (above_zero m e) ∙ round_back f s (suc m) e t))

-- 0 + x
pub add_zero_left : (f : Format) (z x : Float) → T (fits f x) → finite x ≡ true → Zero z → Equal (add f z x) x
add_zero_left f z nan t h k = never h
add_zero_left f z (inf s) t h k = never h
add_zero_left f z (fin s zero e) t h k =
    rw (k.is, add_left f s 0 e k.sign, zero-mul (up e)) (inr (sum_zeros f k.sign s (down e) (down_pos e), fitting_zero f s e t))
add_zero_left f z (fin s (suc m) e) t h k =
    rw (k.is, add_left f s (suc m) e k.sign)
    (inl (sum_left_zero f k.sign s (suc m * up e) (down e) (above_zero m e) ∙ round_back f s (suc m) e t))

-- ---- a product with zero and with one

zero_times : (f : Format) (s t : Bool) (m : ℕ) (e : ℤ) → mul f (fin s 0 (pos 0)) (fin t m e) ≡ fin (unlike s t) 0 (pos 0)
unfolding mul
zero_times f s t m e = rw (zero-mul (m * up e), one-mul (down e)) (round_zero f (unlike s t) (down e) (down_pos e))

-- 0 · x
pub mul_zero_left : (f : Format) (z x : Float) → Zero z → finite x ≡ true → Zero (mul f z x)
mul_zero_left f z nan k h = never h
mul_zero_left f z (inf s) k h = never h
mul_zero_left f z (fin s m e) k h = record { sign = unlike k.sign s; is = rw k.is (zero_times f k.sign s m e) }

unlike_false : (s : Bool) → unlike false s ≡ s
unlike_false true = refl
unlike_false false = refl

-- 1 · x
pub mul_one_left : (f : Format) (x : Float) → T (fits f x) → finite x ≡ true → mul f one x ≡ x
unfolding mul
mul_one_left f nan t h = refl
mul_one_left f (inf s) t h = never h
mul_one_left f (fin s m e) t h = rw (unlike_false s, one-mul (m * up e), one-mul (down e)) (round_back f s m e t)

-- ---- the difference of equal numbers

pub difference_of_same : (f : Format) (s : Bool) (a c : ℕ) → sum f s a (not s) a c ≡ round f false 0 c
unfolding sum
difference_of_same f true a c = rw (le-ltb a a (le_refl a), sub_self a) refl
difference_of_same f false a c = rw (le-ltb a a (le_refl a), sub_self a) refl

-- a difference of finite numbers, before it is rounded
pub sub_is : (f : Format) (s : Bool) (m : ℕ) (e : ℤ) (t : Bool) (n : ℕ) (d : ℤ)
    → sub f (fin s m e) (fin t n d) ≡ sum f s (m * up e * down d) (not t) (n * up d * down e) (down e * down d)
unfolding sub
sub_is f s m e t n d = refl

-- x − y
pub sub_equal : (f : Format) (x y : Float) → finite x ≡ true → Equal x y → Zero (sub f x y)
sub_equal f nan y h k = never h
sub_equal f (inf s) y h k = never h
sub_equal f (fin s m e) y h (inl same) =
    rw (← same)
    (record {
      sign = false;
      is =
          sub_is f s m e s m e ∙ difference_of_same f s (m * up e * down e) (down e * down e)
          ∙ round_zero f false (down e * down e) (mul-pos (down_pos e) (down_pos e));
    })
sub_equal f (fin s m e) y h (inr zeros) =
    rw (zeros.0.is, zeros.1.is, sub_is f zeros.0.sign 0 (pos 0) zeros.1.sign 0 (pos 0))
    (sum_zeros f zeros.0.sign (not zeros.1.sign) 1 (zero-lt-suc 0))

-- ---- a quotient by a number above zero

-- before it is rounded
pub div_is : (f : Format) (s : Bool) (m : ℕ) (e : ℤ) (n : ℕ) (d : ℤ)
    → div f (fin s m e) (fin false (suc n) d) ≡ round f (unlike s false) (m * up e * down d) (suc n * up d * down e)
unfolding div
div_is f s m e n d = rw (ne_eqb (suc n) 0 (λ z. omega arith)) refl

-- 0 / x
pub div_zero : (f : Format) (z x : Float) → Zero z → T (positive x) → Zero (div f z x)
div_zero f z nan k p = absurd p
div_zero f z (inf s) k p = absurd p
div_zero f z (fin true m e) k p = absurd p
div_zero f z (fin false zero e) k p = absurd p
div_zero f z (fin false (suc m) e) k p =
    rw (k.is, div_is f k.sign 0 (pos 0) m e, zero-mul (down e), mul-one (suc m * up e))
    (record { sign = unlike k.sign false; is = round_zero f (unlike k.sign false) (suc m * up e) (above_zero m e) })

one_over_one : (f : Format) → round f false 1 1 ≡ one
unfolding round
one_over_one binary32 = refl
one_over_one binary64 = refl

-- x / x
pub div_self : (f : Format) (x : Float) → T (positive x) → div f x x ≡ one
div_self f nan p = absurd p
div_self f (inf s) p = absurd p
div_self f (fin true m e) p = absurd p
div_self f (fin false zero e) p = absurd p
div_self f (fin false (suc m) e) p =
    let w : ℕ = suc m * up e * down e in
    div_is f false (suc m) e m e
    ∙ round_same f false w w 1 1 (mul-pos (above_zero m e) (down_pos e)) (zero-lt-suc 0) (mul-one w ∙ sym (one-mul w))
    ∙ one_over_one f
