-- The quotient of two doubles by their patterns, case by case.
use mathlib.Core.Path.{◌≡◌, refl, sym, ap, ◌∙◌}
use mathlib.Core.Bool.{Bool, true, false, cond}
use mathlib.Core.Logic.{◌⊎◌, inl, inr}
use Prim.Native.Nat.{ℕ, ◌+◌, ◌*◌, ◌^◌, ◌≤◌, ◌<◌}
use native.Mathlib.Nat.{add-zero, zero-mul, mul_comm, mul_assoc, mul_left_comm, mul-pos}
use native.Mathlib.Omega.{arith}
use lib.Dec.{eqb, lit<}
use lib.IntN.{ℤ, pos}
use lib.Pow.{pow_pos}
use borrow.Author.Tests.{eq-eqb, ne_eqb}
use lib.Ieee.{Float, nan, inf, fin, Format, binary64, low, unlike, up, down, size, round, div, of_bits, to_bits}
use lib.Ieee.Fits.{up_pos, down_pos}
use lib.Ieee.Exact.{HasValue}
use lib.Ieee.Scale.{round_same}
use Rattle.doubles_patterns.specs.Doubles.{quotient_pattern}
use Rattle.doubles_patterns.specs.Patterns.{infinity, not_a_number, magnitude, negative, sign_weight, pattern, units_of, quotient_of_units}
use Rattle.doubles_patterns.proofs.Sizes.{le_or_lt}
use Rattle.doubles_patterns.proofs.Packing.{round_pattern_over, pattern_same}
use Rattle.doubles_patterns.proofs.Magnitudes.{units_zero, units_some}
use Rattle.doubles_patterns.proofs.Specials.{value_of, nan_of, inf_of, to_bits_nan, to_bits_inf, value_zero, value_some}

-- ---- finite values
opened : (f : Format) (u : Bool) (m : ℕ) (e : ℤ) (v : Bool) (n : ℕ) (d : ℤ)
    → div f (fin u m e) (fin v n d) ≡ cond (eqb n 0) (cond (eqb m 0) nan (inf (unlike u v)))
    (round f (unlike u v) (m * up e * down d) (n * up d * down e))
unfolding div
opened f u m e v n d = refl

-- a * L = X * p and b * L = Y * q: a / b = X * q / (Y * p)
cross : (a b p q X Y L : ℕ) → a * L ≡ X * p → b * L ≡ Y * q → a * q * (Y * L) ≡ X * L * (b * p)
cross a b p q X Y L x y =
    one a q Y L ∙ ap (λ (z : ℕ). a * L * z) (sym y) ∙ ap (λ (z : ℕ). z * (b * L)) x ∙ two X p b L
  where
    one : (a q Y L : ℕ) → a * q * (Y * L) ≡ a * L * (Y * q)
    one a q Y L = simp (mul_assoc, mul_comm, mul_left_comm)

    two : (X p b L : ℕ) → X * p * (b * L) ≡ X * L * (b * p)
    two X p b L = simp (mul_assoc, mul_comm, mul_left_comm)

not_zero : (n : ℕ) → (n ≡ 0 → ⊥) → 0 < n
not_zero n h = omega arith

pub div_values : (f : Format) (x y : Float) (s : Bool) (X : ℕ) (t : Bool) (Y L : ℕ) → 0 < L → 0 < Y → HasValue x s X L → HasValue y t Y L
    → div f x y ≡ round f (unlike s t) (X * L) (Y * L)
div_values f nan y s X t Y L l some h k = absurd h
div_values f (inf u) y s X t Y L l some h k = absurd h
div_values f (fin u m e) nan s X t Y L l some h k = absurd k
div_values f (fin u m e) (inf v) s X t Y L l some h k = absurd k
div_values f (fin u m e) (fin v n d) s X t Y L l some h k =
    let N : n ≡ 0 → ⊥ = value_some n (up d) L Y (down d) some (down_pos d) k.1 in
    opened f u m e v n d
    ∙ ap (λ (b : Bool). cond b (cond (eqb m 0) nan (inf (unlike u v))) (round f (unlike u v) (m * up e * down d) (n * up d * down e)))
    (ne_eqb n 0 N)
    ∙ ap (λ (b : Bool). round f (unlike b v) (m * up e * down d) (n * up d * down e)) h.0
    ∙ ap (λ (b : Bool). round f (unlike s b) (m * up e * down d) (n * up d * down e)) k.0
    ∙ round_same f (unlike s t) (m * up e * down d) (n * up d * down e) (X * L) (Y * L)
    (mul-pos (mul-pos (not_zero n N) (up_pos d)) (down_pos e)) (mul-pos some l)
    (cross (m * up e) (n * up d) (down e) (down d) X Y L h.1 k.1)

div_zero : (f : Format) (x y : Float) (s : Bool) (X : ℕ) (t : Bool) (Y L : ℕ) → 0 < L → Y ≡ 0 → 0 < X → HasValue x s X L
    → HasValue y t Y L → div f x y ≡ inf (unlike s t)
div_zero f nan y s X t Y L l z some h k = absurd h
div_zero f (inf u) y s X t Y L l z some h k = absurd h
div_zero f (fin u m e) nan s X t Y L l z some h k = absurd k
div_zero f (fin u m e) (inf v) s X t Y L l z some h k = absurd k
div_zero f (fin u m e) (fin v n d) s X t Y L l z some h k =
    opened f u m e v n d
    ∙ ap (λ (b : Bool). cond b (cond (eqb m 0) nan (inf (unlike u v))) (round f (unlike u v) (m * up e * down d) (n * up d * down e)))
    (eq-eqb n 0 (value_zero n (up d) L Y (down d) (up_pos d) l k.1 z))
    ∙ ap (λ (b : Bool). cond b nan (inf (unlike u v))) (ne_eqb m 0 (value_some m (up e) L X (down e) some (down_pos e) h.1))
    ∙ ap (λ (b : Bool). inf (unlike b v)) h.0 ∙ ap (λ (b : Bool). inf (unlike s b)) k.0

div_zeros : (f : Format) (x y : Float) (s : Bool) (X : ℕ) (t : Bool) (Y L : ℕ) → 0 < L → Y ≡ 0 → X ≡ 0 → HasValue x s X L
    → HasValue y t Y L → div f x y ≡ nan
div_zeros f nan y s X t Y L l z some h k = absurd h
div_zeros f (inf u) y s X t Y L l z some h k = absurd h
div_zeros f (fin u m e) nan s X t Y L l z some h k = absurd k
div_zeros f (fin u m e) (inf v) s X t Y L l z some h k = absurd k
div_zeros f (fin u m e) (fin v n d) s X t Y L l z none h k =
    opened f u m e v n d
    ∙ ap (λ (b : Bool). cond b (cond (eqb m 0) nan (inf (unlike u v))) (round f (unlike u v) (m * up e * down d) (n * up d * down e)))
    (eq-eqb n 0 (value_zero n (up d) L Y (down d) (up_pos d) l k.1 z))
    ∙ ap (λ (b : Bool). cond b nan (inf (unlike u v))) (eq-eqb m 0 (value_zero m (up e) L X (down e) (up_pos e) l h.1 none))

-- ---- infinities and NaN
div_nan : (y : Float) → (div binary64 nan y ≡ nan) × (div binary64 y nan ≡ nan)
unfolding div
div_nan nan = (refl, refl)
div_nan (inf s) = (refl, refl)
div_nan (fin s m e) = (refl, refl)

div_infs : (s t : Bool) → div binary64 (inf s) (inf t) ≡ nan
unfolding div
div_infs s t = refl

div_inf : (s t : Bool) (y : Float) (Y L : ℕ) → HasValue y t Y L
    → (div binary64 (inf s) y ≡ inf (unlike s t)) × (div binary64 y (inf s) ≡ fin (unlike t s) 0 (pos 0))
unfolding div
div_inf s t nan Y L h = absurd h
div_inf s t (inf u) Y L h = absurd h
div_inf s t (fin u n d) Y L h = (ap (λ (b : Bool). inf (unlike s b)) h.0, ap (λ (b : Bool). fin (unlike b s) 0 (pos 0)) h.0)

toBits_zero : (s : Bool) → to_bits binary64 (fin s 0 (pos 0)) ≡ sign_weight s
unfolding to_bits
toBits_zero true = refl
toBits_zero false = refl

zero_pattern : (y : ℕ) → 0 < y → pattern binary64 (0 * 2 ^ low binary64) y ≡ 0
unfolding pattern size
zero_pattern y h =
    pattern_same binary64 (0 * 2 ^ low binary64) y 0 1 h (lit< tt)
    (ap (λ (x : ℕ). x * 1) (zero-mul (2 ^ low binary64)) ∙ sym (zero-mul y)) ∙ refl

-- ---- the answers
module _ (a b w : ℕ) (is : w ≡ sign_weight (unlike (negative a) (negative b))) where
  pub quotient_signed : (n : ℕ) → magnitude a < infinity → magnitude b < infinity → 0 < magnitude b
      → n ≡ quotient_of_units (units_of (magnitude a)) (units_of (magnitude b)) → w + n ≡ quotient_pattern a b
  unfolding quotient_of_units
  quotient_signed n ha hb some e =
      let X = units_of (magnitude a) in
      let Y = units_of (magnitude b) in
      let U = unlike (negative a) (negative b) in
      let y : 0 < Y = units_some (magnitude b) hb some in
      ap (λ (x : ℕ). x + n) is ∙ ap (λ (x : ℕ). sign_weight U + x) e
      ∙ sym (ap (to_bits binary64) (div_values binary64 (of_bits binary64 a) (of_bits binary64 b) (negative a) X (negative b) Y
      (2 ^ low binary64) (pow_pos (low binary64)) y (value_of a ha) (value_of b hb))
      ∙ round_pattern_over binary64 U (X * 2 ^ low binary64) Y y)

  pub quotient_nothing : magnitude a ≡ 0 → magnitude b < infinity → 0 < magnitude b → w ≡ quotient_pattern a b
  unfolding quotient_of_units
  quotient_nothing z hb some =
      sym (add-zero w) ∙ quotient_signed 0 (omega arith) hb some
      (sym (ap (λ (x : ℕ). pattern binary64 (x * 2 ^ low binary64) (units_of (magnitude b))) (ap units_of z ∙ units_zero)
      ∙ zero_pattern (units_of (magnitude b)) (units_some (magnitude b) hb some)))

  pub quotient_by_zero : magnitude a < infinity → 0 < magnitude a → magnitude b ≡ 0 → w + infinity ≡ quotient_pattern a b
  quotient_by_zero ha some z =
      ap (λ (x : ℕ). x + infinity) is ∙ sym (to_bits_inf (unlike (negative a) (negative b)))
      ∙ ap (to_bits binary64) (sym (div_zero binary64 (of_bits binary64 a) (of_bits binary64 b) (negative a) (units_of (magnitude a))
      (negative b) (units_of (magnitude b)) (2 ^ low binary64) (pow_pos (low binary64)) (ap units_of z ∙ units_zero)
      (units_some (magnitude a) ha some) (value_of a ha) (value_of b (omega arith))))

  pub quotient_of_inf : magnitude a ≡ infinity → magnitude b < infinity → w + infinity ≡ quotient_pattern a b
  quotient_of_inf h hb =
      ap (λ (x : ℕ). x + infinity) is ∙ sym (to_bits_inf (unlike (negative a) (negative b)))
      ∙ ap (to_bits binary64) (sym (ap (λ (x : Float). div binary64 x (of_bits binary64 b)) (inf_of a h)
      ∙ (div_inf (negative a) (negative b) (of_bits binary64 b) (units_of (magnitude b)) (2 ^ low binary64) (value_of b hb)).0))

  pub quotient_by_inf : magnitude a < infinity → magnitude b ≡ infinity → w ≡ quotient_pattern a b
  quotient_by_inf ha h =
      is ∙ sym (toBits_zero (unlike (negative a) (negative b)))
      ∙ ap (to_bits binary64) (sym (ap (λ (x : Float). div binary64 (of_bits binary64 a) x) (inf_of b h)
      ∙ (div_inf (negative b) (negative a) (of_bits binary64 a) (units_of (magnitude a)) (2 ^ low binary64) (value_of a ha)).1))

module _ (a b : ℕ) where
  pub quotient_zeros : magnitude a ≡ 0 → magnitude b ≡ 0 → not_a_number ≡ quotient_pattern a b
  quotient_zeros y z =
      sym (ap (to_bits binary64) (div_zeros binary64 (of_bits binary64 a) (of_bits binary64 b) (negative a) (units_of (magnitude a))
      (negative b) (units_of (magnitude b)) (2 ^ low binary64) (pow_pos (low binary64)) (ap units_of z ∙ units_zero)
      (ap units_of y ∙ units_zero) (value_of a (omega arith)) (value_of b (omega arith))) ∙ to_bits_nan)

  pub quotient_nan : infinity < magnitude a → not_a_number ≡ quotient_pattern a b
  quotient_nan h =
      sym (ap (λ (x : Float). to_bits binary64 (div binary64 x (of_bits binary64 b))) (nan_of a h)
      ∙ ap (to_bits binary64) (div_nan (of_bits binary64 b)).0 ∙ to_bits_nan)

  pub quotient_nan_back : infinity < magnitude b → not_a_number ≡ quotient_pattern a b
  quotient_nan_back h =
      sym (ap (λ (x : Float). to_bits binary64 (div binary64 (of_bits binary64 a) x)) (nan_of b h)
      ∙ ap (to_bits binary64) (div_nan (of_bits binary64 a)).1 ∙ to_bits_nan)

  pub quotient_infs : magnitude a ≡ infinity → magnitude b ≡ infinity → not_a_number ≡ quotient_pattern a b
  quotient_infs h g =
      sym (ap (λ (x : Float). to_bits binary64 (div binary64 x (of_bits binary64 b))) (inf_of a h)
      ∙ ap (λ (y : Float). to_bits binary64 (div binary64 (inf (negative a)) y)) (inf_of b g)
      ∙ ap (to_bits binary64) (div_infs (negative a) (negative b)) ∙ to_bits_nan)

-- a NaN is one of the two
pub quotient_of_nan : (a b : ℕ) → (magnitude a ≤ infinity → infinity < magnitude b) → not_a_number ≡ quotient_pattern a b
quotient_of_nan a b other = go (le_or_lt (magnitude a) infinity)
  where
    go : (magnitude a ≤ infinity) ⊎ (infinity < magnitude a) → not_a_number ≡ quotient_pattern a b
    go (inl x) = quotient_nan_back a b (other x)
    go (inr x) = quotient_nan a b x
