-- The product of two doubles by their patterns, case by case.
use mathlib.Core.Path.{◌≡◌, refl, sym, ap, ◌∙◌}
use mathlib.Core.Bool.{Bool, true, false, cond}
use mathlib.Core.Logic.{◌⊎◌, inl, inr}
use Prim.Native.Nat.{ℕ, zero, suc, ◌+◌, ◌*◌, ◌^◌, ◌≤◌, ◌<◌}
use native.Mathlib.Nat.{add-zero, zero-mul, mul-zero, mul_assoc, mul_left_comm, mul-pos}
use native.Mathlib.Omega.{arith}
use lib.Dec.{eqb, lit<}
use lib.IntN.{ℤ}
use lib.Pow.{pow_pos}
use borrow.Author.Tests.{eq-eqb, ne_eqb}
use lib.Ieee.{Float, nan, inf, fin, Format, binary64, low, unlike, up, down, size, round, mul, of_bits, to_bits}
use lib.Ieee.Fits.{up_pos, down_pos}
use lib.Ieee.Exact.{HasValue}
use lib.Ieee.Scale.{round_same}
use Rattle.doubles_patterns.specs.Doubles.{product_pattern}
use Rattle.doubles_patterns.specs.Patterns.{infinity, not_a_number, magnitude, negative, sign_weight, pattern, units_of, product_of_units}
use Rattle.doubles_patterns.proofs.Sizes.{le_or_lt}
use Rattle.doubles_patterns.proofs.Packing.{round_pattern_over, pattern_same}
use Rattle.doubles_patterns.proofs.Magnitudes.{units_zero, units_some}
use Rattle.doubles_patterns.proofs.Specials.{value_of, nan_of, inf_of, to_bits_nan, to_bits_inf, value_zero, value_some}

-- ---- finite values
opened : (f : Format) (u : Bool) (m : ℕ) (e : ℤ) (v : Bool) (n : ℕ) (d : ℤ)
    → mul f (fin u m e) (fin v n d) ≡ round f (unlike u v) (m * up e * (n * up d)) (down e * down d)
unfolding mul
opened f u m e v n d = refl

cross : (a b L : ℕ) → a * b * (L * L) ≡ a * L * (b * L)
cross a b L = simp (mul_assoc, mul_left_comm)

cross' : (X Y p q : ℕ) → X * p * (Y * q) ≡ X * Y * (p * q)
cross' X Y p q = simp (mul_assoc, mul_left_comm)

pub mul_values : (f : Format) (x y : Float) (s : Bool) (X : ℕ) (t : Bool) (Y L : ℕ) → 0 < L → HasValue x s X L → HasValue y t Y L
    → mul f x y ≡ round f (unlike s t) (X * Y) (L * L)
mul_values f nan y s X t Y L l h k = absurd h
mul_values f (inf u) y s X t Y L l h k = absurd h
mul_values f (fin u m e) nan s X t Y L l h k = absurd k
mul_values f (fin u m e) (inf v) s X t Y L l h k = absurd k
mul_values f (fin u m e) (fin v n d) s X t Y L l h k =
    opened f u m e v n d
    ∙ ap (λ (b : Bool). round f (unlike b v) (m * up e * (n * up d)) (down e * down d)) h.0
    ∙ ap (λ (b : Bool). round f (unlike s b) (m * up e * (n * up d)) (down e * down d)) k.0
    ∙ round_same f (unlike s t) (m * up e * (n * up d)) (down e * down d) (X * Y) (L * L) (mul-pos (down_pos e) (down_pos d)) (mul-pos l l)
    (cross (m * up e) (n * up d) L ∙ ap (λ (z : ℕ). z * (n * up d * L)) h.1 ∙ ap (λ (z : ℕ). X * down e * z) k.1
    ∙ cross' X Y (down e) (down d))

module _ (a b : ℕ) (ha : magnitude a < infinity) (hb : magnitude b < infinity) where
  pub product_finite : product_pattern a b
      ≡ sign_weight (unlike (negative a) (negative b)) + product_of_units (units_of (magnitude a)) (units_of (magnitude b))
  unfolding product_of_units
  product_finite =
      ap (to_bits binary64)
      (mul_values binary64 (of_bits binary64 a) (of_bits binary64 b) (negative a) (units_of (magnitude a)) (negative b)
      (units_of (magnitude b)) (2 ^ low binary64) (pow_pos (low binary64)) (value_of a ha) (value_of b hb))
      ∙ round_pattern_over binary64 (unlike (negative a) (negative b)) (units_of (magnitude a) * units_of (magnitude b))
      (2 ^ low binary64) (pow_pos (low binary64))

-- ---- zero
zero_pattern : pattern binary64 0 (2 ^ low binary64) ≡ 0
unfolding pattern size
zero_pattern = pattern_same binary64 0 (2 ^ low binary64) 0 1 (pow_pos (low binary64)) (lit< tt) refl ∙ refl

pub product_zero : (p o : ℕ) → p ≡ 0 → product_of_units (units_of p) (units_of o) ≡ 0
unfolding product_of_units
product_zero p o e =
    ap (λ (x : ℕ). pattern binary64 (x * units_of o) (2 ^ low binary64)) (ap units_of e ∙ units_zero)
    ∙ ap (λ (x : ℕ). pattern binary64 x (2 ^ low binary64)) (zero-mul (units_of o)) ∙ zero_pattern

pub product_zero_back : (p o : ℕ) → o ≡ 0 → product_of_units (units_of p) (units_of o) ≡ 0
unfolding product_of_units
product_zero_back p o e =
    ap (λ (x : ℕ). pattern binary64 (units_of p * x) (2 ^ low binary64)) (ap units_of e ∙ units_zero)
    ∙ ap (λ (x : ℕ). pattern binary64 x (2 ^ low binary64)) (mul-zero (units_of p)) ∙ zero_pattern

-- one of the two is zero
pub product_one_zero : (p o : ℕ) → (0 < p → o ≡ 0) → product_of_units (units_of p) (units_of o) ≡ 0
product_one_zero zero o other = product_zero zero o refl
product_one_zero (suc p) o other = product_zero_back (suc p) o (other (omega arith))

-- ---- infinity
inf_zero : (s t : Bool) (y : Float) (Y L : ℕ) → 0 < L → HasValue y t Y L → Y ≡ 0
    → (mul binary64 (inf s) y ≡ nan) × (mul binary64 y (inf s) ≡ nan)
unfolding mul
inf_zero s t nan Y L l h z = absurd h
inf_zero s t (inf u) Y L l h z = absurd h
inf_zero s t (fin u n d) Y L l h z =
    let e : eqb n 0 ≡ true = eq-eqb n 0 (value_zero n (up d) L Y (down d) (up_pos d) l h.1 z) in
    (ap (λ (b : Bool). cond b nan (inf (unlike s u))) e, ap (λ (b : Bool). cond b nan (inf (unlike u s))) e)

inf_some : (s t : Bool) (y : Float) (Y L : ℕ) → 0 < L → HasValue y t Y L → 0 < Y
    → (mul binary64 (inf s) y ≡ inf (unlike s t)) × (mul binary64 y (inf s) ≡ inf (unlike t s))
unfolding mul
inf_some s t nan Y L l h z = absurd h
inf_some s t (inf u) Y L l h z = absurd h
inf_some s t (fin u n d) Y L l h z =
    let e : eqb n 0 ≡ false = ne_eqb n 0 (value_some n (up d) L Y (down d) z (down_pos d) h.1) in (
      ap (λ (b : Bool). cond b nan (inf (unlike s u))) e
          ∙ ap (λ (b : Bool). inf (unlike s b)) h.0,
      ap (λ (b : Bool). cond b nan (inf (unlike u s))) e
          ∙ ap (λ (b : Bool). inf (unlike b s)) h.0,
    )

mul_infs : (s t : Bool) → mul binary64 (inf s) (inf t) ≡ inf (unlike s t)
unfolding mul
mul_infs s t = refl

mul_nan : (y : Float) → (mul binary64 nan y ≡ nan) × (mul binary64 y nan ≡ nan)
unfolding mul
mul_nan nan = (refl, refl)
mul_nan (inf s) = (refl, refl)
mul_nan (fin s m e) = (refl, refl)

module _ (a b : ℕ) where
  pub product_nan : infinity < magnitude a → not_a_number ≡ product_pattern a b
  product_nan h =
      sym (ap (λ (x : Float). to_bits binary64 (mul binary64 x (of_bits binary64 b))) (nan_of a h)
      ∙ ap (to_bits binary64) (mul_nan (of_bits binary64 b)).0 ∙ to_bits_nan)

  pub product_nan_back : infinity < magnitude b → not_a_number ≡ product_pattern a b
  product_nan_back h =
      sym (ap (λ (x : Float). to_bits binary64 (mul binary64 (of_bits binary64 a) x)) (nan_of b h)
      ∙ ap (to_bits binary64) (mul_nan (of_bits binary64 a)).1 ∙ to_bits_nan)

  pub product_infs : magnitude a ≡ infinity → magnitude b ≡ infinity
      → sign_weight (unlike (negative a) (negative b)) + infinity ≡ product_pattern a b
  product_infs h g =
      sym (ap (λ (x : Float). to_bits binary64 (mul binary64 x (of_bits binary64 b))) (inf_of a h)
      ∙ ap (λ (y : Float). to_bits binary64 (mul binary64 (inf (negative a)) y)) (inf_of b g)
      ∙ ap (to_bits binary64) (mul_infs (negative a) (negative b)) ∙ to_bits_inf (unlike (negative a) (negative b)))

  pub product_inf_zero : magnitude a ≡ infinity → magnitude b ≡ 0 → not_a_number ≡ product_pattern a b
  product_inf_zero h g =
      sym (ap (λ (x : Float). to_bits binary64 (mul binary64 x (of_bits binary64 b))) (inf_of a h)
      ∙ ap (to_bits binary64) (inf_zero (negative a) (negative b) (of_bits binary64 b) (units_of (magnitude b)) (2 ^ low binary64)
      (pow_pos (low binary64)) (value_of b (omega arith)) (ap units_of g ∙ units_zero)).0 ∙ to_bits_nan)

  pub product_zero_inf : magnitude b ≡ infinity → magnitude a ≡ 0 → not_a_number ≡ product_pattern a b
  product_zero_inf h g =
      sym (ap (λ (x : Float). to_bits binary64 (mul binary64 (of_bits binary64 a) x)) (inf_of b h)
      ∙ ap (to_bits binary64) (inf_zero (negative b) (negative a) (of_bits binary64 a) (units_of (magnitude a)) (2 ^ low binary64)
      (pow_pos (low binary64)) (value_of a (omega arith)) (ap units_of g ∙ units_zero)).1 ∙ to_bits_nan)

  pub product_inf_some : magnitude a ≡ infinity → magnitude b < infinity → 0 < magnitude b
      → sign_weight (unlike (negative a) (negative b)) + infinity ≡ product_pattern a b
  product_inf_some h g k =
      sym (ap (λ (x : Float). to_bits binary64 (mul binary64 x (of_bits binary64 b))) (inf_of a h)
      ∙ ap (to_bits binary64) (inf_some (negative a) (negative b) (of_bits binary64 b) (units_of (magnitude b)) (2 ^ low binary64)
      (pow_pos (low binary64)) (value_of b g) (units_some (magnitude b) g k)).0
      ∙ to_bits_inf (unlike (negative a) (negative b)))

  pub product_some_inf : magnitude b ≡ infinity → magnitude a < infinity → 0 < magnitude a
      → sign_weight (unlike (negative a) (negative b)) + infinity ≡ product_pattern a b
  product_some_inf h g k =
      sym (ap (λ (x : Float). to_bits binary64 (mul binary64 (of_bits binary64 a) x)) (inf_of b h)
      ∙ ap (to_bits binary64) (inf_some (negative b) (negative a) (of_bits binary64 a) (units_of (magnitude a)) (2 ^ low binary64)
      (pow_pos (low binary64)) (value_of a g) (units_some (magnitude a) g k)).1
      ∙ to_bits_inf (unlike (negative a) (negative b)))

-- ---- as the code has them
module _ (a b w : ℕ) (is : w ≡ sign_weight (unlike (negative a) (negative b))) where
  pub product_signed : (n : ℕ) → magnitude a < infinity → magnitude b < infinity
      → n ≡ product_of_units (units_of (magnitude a)) (units_of (magnitude b)) → w + n ≡ product_pattern a b
  product_signed n ha hb e =
      ap (λ (x : ℕ). x + n) is ∙ ap (λ (x : ℕ). sign_weight (unlike (negative a) (negative b)) + x) e ∙ sym (product_finite a b ha hb)

  pub product_nothing : magnitude a < infinity → magnitude b < infinity
      → product_of_units (units_of (magnitude a)) (units_of (magnitude b)) ≡ 0 → w ≡ product_pattern a b
  product_nothing ha hb e = sym (add-zero w) ∙ product_signed 0 ha hb (sym e)

  pub product_special : (magnitude a < infinity → infinity ≤ magnitude b) → magnitude a ≤ infinity → magnitude b ≤ infinity
      → 0 < magnitude a → 0 < magnitude b → w + infinity ≡ product_pattern a b
  product_special one pa pb sa sb = ap (λ (x : ℕ). x + infinity) is ∙ go (le_or_lt infinity (magnitude a)) (le_or_lt infinity (magnitude b))
    where
      go : (infinity ≤ magnitude a) ⊎ (magnitude a < infinity) → (infinity ≤ magnitude b) ⊎ (magnitude b < infinity)
          → sign_weight (unlike (negative a) (negative b)) + infinity ≡ product_pattern a b
      go (inl x) (inl y) = product_infs a b (omega arith) (omega arith)
      go (inl x) (inr y) = product_inf_some a b (omega arith) y sb
      go (inr x) (inl y) = product_some_inf a b (omega arith) x sa
      go (inr x) (inr y) = let z = one x in absurd (let q : ⊥ = omega arith in q)

pub at_zero : (p o : ℕ) → (p < infinity → infinity ≤ o) → o ≡ 0 → infinity ≤ p
at_zero p o h e = go (le_or_lt infinity p)
  where
    go : (infinity ≤ p) ⊎ (p < infinity) → infinity ≤ p
    go (inl x) = x
    go (inr x) = let y = h x in absurd (let q : ⊥ = omega arith in q)

-- a NaN is one of the two, or an infinity and a zero are both
pub product_invalid : (a b : ℕ) → (magnitude a < infinity → infinity ≤ magnitude b)
    → (magnitude a ≤ infinity → magnitude b ≤ infinity → 0 < magnitude a → magnitude b ≡ 0) → not_a_number ≡ product_pattern a b
product_invalid a b one met = go (le_or_lt (magnitude a) infinity) (le_or_lt (magnitude b) infinity) (le_or_lt (magnitude a) 0)
  where
    go : (magnitude a ≤ infinity) ⊎ (infinity < magnitude a) → (magnitude b ≤ infinity) ⊎ (infinity < magnitude b)
        → (magnitude a ≤ 0) ⊎ (0 < magnitude a) → not_a_number ≡ product_pattern a b
    go (inr x) y z = product_nan a b (omega arith)
    go (inl x) (inr y) z = product_nan_back a b (omega arith)
    go (inl x) (inl y) (inl z) = let h = one (omega arith) in product_zero_inf a b (omega (arith, h)) (omega arith)
    go (inl x) (inl y) (inr z) =
        let zero : magnitude b ≡ 0 = met x y z in
        let h = at_zero (magnitude a) (magnitude b) one zero in
        product_inf_zero a b (omega (arith, h)) zero
