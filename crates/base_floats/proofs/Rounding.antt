-- A finite value that fits is written in one way, so rounding gives it back.
use mathlib.Core.Path.{◌≡◌, refl, sym, ap, ◌∙◌, subst}
use mathlib.Core.Bool.{Bool}
use Prim.Native.Nat.{ℕ, zero, suc, ◌+◌, ◌-◌, ◌*◌, ◌%◌, ◌^◌, ◌<◌}
use native.Mathlib.Nat.{
  mul-one,
  one-mul,
  mul_assoc,
  mul_left_comm,
  zero-mul,
  mul-pos,
  zero-lt-suc,
  pow-succ',
  pow-suc,
  eq_of_mul-eq-mul_right,
  lt_irrefl,
}
use native.Mathlib.Omega.{arith}
use lib.Dec.{T, eqb→eq}
use lib.IntN.{ℤ, pos, negsuc}
use lib.Pow.{pow-add}
use lib.Ieee.{Float, nan, inf, fin, Format, binary32, binary64, low, up, down, round, fits}
use lib.Ieee.Fits.{up_pos, down_pos, round-fits}
use lib.Ieee.Exact.{HasValue, round_exact}
use lib.Ieee.Scale.{overflow, round_same}
use Rattle.base_floats.specs.Place.{weight}
use Rattle.base_floats.proofs.Units.{Fitting, fitting, scaled, under_overflow}

-- ---- an odd number times a power of two

not_even : (m half : ℕ) → m % 2 ≡ 1 → m ≡ 2 * half → ⊥
not_even m half odd e = omega arith

-- an odd number is no other times a power of two
odd_alone : (m n b : ℕ) → m % 2 ≡ 1 → m * 1 ≡ n * 2 ^ suc b → ⊥
odd_alone m n b odd e = not_even m (n * 2 ^ b) odd (sym (mul-one m) ∙ e ∙ rw (pow-succ' 2 b, mul_left_comm n 2 (2 ^ b)) refl)

odd_power : (m n a b : ℕ) → m % 2 ≡ 1 → n % 2 ≡ 1 → m * 2 ^ a ≡ n * 2 ^ b → (m ≡ n) × (a ≡ b)
odd_power m n zero zero p q e = (sym (mul-one m) ∙ e ∙ mul-one n, refl)
odd_power m n zero (suc b) p q e = absurd (odd_alone m n b p e)
odd_power m n (suc a) zero p q e = absurd (odd_alone n m a q (sym e))
odd_power m n (suc a) (suc b) p q e =
    let halved : m * 2 ^ a ≡ n * 2 ^ b =
    eq_of_mul-eq-mul_right 2 (zero-lt-suc 1) (m * 2 ^ a) (n * 2 ^ b)
    (rw (mul_assoc m (2 ^ a) 2, mul_assoc n (2 ^ b) 2, ← pow-suc 2 a, ← pow-suc 2 b) e) in
    let less = odd_power m n a b p q halved in
    (less.0, ap suc less.1)

-- so two values that are equal across their denominators are written alike
pub written_once : (m n : ℕ) (e d : ℤ) → m % 2 ≡ 1 → n % 2 ≡ 1 → m * up e * down d ≡ n * up d * down e → (m ≡ n) × (e ≡ d)
written_once m n (pos a) (pos b) p q h =
    let same = odd_power m n a b p q (sym (mul-one (m * 2 ^ a)) ∙ h ∙ mul-one (n * 2 ^ b)) in
    (same.0, ap pos same.1)
written_once m n (pos a) (negsuc b) p q h =
    let same = odd_power m n (a + suc b) 0 p q (rw (pow-add 2 a (suc b), ← mul_assoc m (2 ^ a) (2 ^ suc b)) (h ∙ mul-one (n * 1))) in
    absurd (let z : a + suc b ≡ 0 = same.1 in omega arith)
written_once m n (negsuc a) (pos b) p q h =
    let same = odd_power n m (b + suc a) 0 q p (rw (pow-add 2 b (suc a), ← mul_assoc n (2 ^ b) (2 ^ suc a)) (sym h ∙ mul-one (m * 1))) in
    absurd (let z : b + suc a ≡ 0 = same.1 in omega arith)
written_once m n (negsuc a) (negsuc b) p q h =
    let same = odd_power m n (suc b) (suc a) p q (rw (mul-one m, mul-one n) at h) in
    (same.0, ap negsuc (let z : suc b ≡ suc a = same.1 in let y : a ≡ b = omega arith in y))

-- ---- zero

exponent_zero : (e : ℤ) → up e * down e ≡ 1 → e ≡ pos 0
exponent_zero (pos zero) h = refl
exponent_zero (pos (suc k)) h = absurd (not_even 1 (2 ^ k) refl (sym h ∙ rw (mul-one (2 ^ suc k), pow-succ' 2 k) refl))
exponent_zero (negsuc k) h = absurd (not_even 1 (2 ^ k) refl (sym h ∙ rw (one-mul (2 ^ suc k), pow-succ' 2 k) refl))

pub zero_exponent : (f : Format) (s : Bool) (e : ℤ) → T (fits f (fin s zero e)) → e ≡ pos 0
unfolding fits
zero_exponent f s e t = exponent_zero e (eqb→eq (up e * down e) 1 t)

zero_over_one : (f : Format) (s : Bool) → round f s 0 1 ≡ fin s 0 (pos 0)
unfolding round
zero_over_one binary32 s = refl
zero_over_one binary64 s = refl

pub round_zero : (f : Format) (s : Bool) (c : ℕ) → 0 < c → round f s 0 c ≡ fin s 0 (pos 0)
round_zero f s c h = round_same f s 0 c 0 1 h (zero-lt-suc 0) (rw (zero-mul c) refl) ∙ zero_over_one f s

-- ---- rounding what fits

power_weight : (f : Format) (e : ℤ) → (j : ℕ) × (weight f e ≡ 2 ^ j)
power_weight f (pos k) = (k + low f, refl)
power_weight f (negsuc k) = (low f - suc k, refl)

round_value : (f : Format) (s : Bool) (m : ℕ) (e : ℤ) → Fitting f m e → HasValue (round f s (m * up e) (down e)) s (m * up e) (down e)
round_value f s m e w =
    let power = power_weight f e in
    round_exact f s (m * up e) (down e) m power.0 (down_pos e) w.short
    (subst (λ (x : ℕ). m * x < overflow f) power.1 (under_overflow f m e w))
    (scaled f m e w.fine ∙ ap (λ (x : ℕ). m * x * down e) power.1)

-- a product with a factor above zero, over a denominator
pub no_zero : (m u d : ℕ) → 0 < u → 0 < d → suc m * u * d ≡ 0 → ⊥
no_zero m u d up down e = lt_irrefl 0 (subst (λ (x : ℕ). 0 < x) e (mul-pos (mul-pos (zero-lt-suc m) up) down))

pub zero_across : (u d : ℕ) → 0 * u * d ≡ 0
zero_across u d = rw (zero-mul u, zero-mul d) refl

value_back : (f : Format) (x : Float) (s : Bool) (m : ℕ) (e : ℤ) → T (fits f x) → T (fits f (fin s (suc m) e))
    → HasValue x s (suc m * up e) (down e) → x ≡ fin s (suc m) e
value_back f nan s m e p q h = absurd h
value_back f (inf t) s m e p q h = absurd h
value_back f (fin t zero d) s m e p q h =
    absurd (no_zero m (up e) (down d) (up_pos e) (down_pos d) (sym h.1 ∙ zero_across (up d) (down e)))
value_back f (fin t (suc n) d) s m e p q h =
    let same = written_once (suc n) (suc m) d e (fitting f t n d p).odd (fitting f s m e q).odd h.1 in
    λ i. fin (h.0 i) (same.0 i) (same.1 i)

pub round_back : (f : Format) (s : Bool) (m : ℕ) (e : ℤ) → T (fits f (fin s m e)) → round f s (m * up e) (down e) ≡ fin s m e
round_back f s zero e t = rw (zero-mul (up e)) (round_zero f s (down e) (down_pos e) ∙ ap (fin s 0) (sym (zero_exponent f s e t)))
round_back f s (suc m) e t =
    value_back f (round f s (suc m * up e) (down e)) s m e (round-fits f s (suc m * up e) (down e)) t
    (round_value f s (suc m) e (fitting f s m e t))
