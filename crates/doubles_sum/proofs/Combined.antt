-- The sum and the difference of two magnitudes: of the digits on one scale, what stands for the smaller one's included, the pattern is that
-- of the units.
use mathlib.Core.Path.{◌≡◌, refl, sym, ap, ◌∙◌, subst}
use mathlib.Core.Logic.{◌⊎◌, inl, inr}
use Prim.Native.Nat.{ℕ, zero, suc, ◌+◌, ◌-◌, ◌*◌, ◌/◌, ◌^◌, ◌≤◌, ◌<◌}
use native.Mathlib.Nat.{
  mul-one,
  mul_assoc,
  mul_left_comm,
  mul_right_comm,
  add-mul,
  mul-pos,
  mul-le-mul_right,
  mul-le-mul_left,
  mul-lt-mul_of_pos_right,
  le-div_iff_mul-le,
  pow-succ',
}
use native.Mathlib.Omega.{arith}
use lib.Dec.{lit<}
use lib.Pow.{pow-add, pow_pos, pow_mono}
use lib.Ieee.{binary64, size}
use Rattle.doubles_patterns.specs.Patterns.{leading, second_place, pattern, exponent_of, units_of}
use Rattle.doubles_patterns.specs.Finite.{Fields}
use Rattle.doubles_patterns.proofs.Sizes.{le_or_lt, more_digits}
use Rattle.doubles_patterns.proofs.Packing.{pattern_same}
use Rattle.doubles_patterns.proofs.Values.{sub_mul}
use Rattle.doubles_patterns.proofs.Magnitudes.{exponents, units_is}
use Rattle.doubles_rounding.specs.Standing.{Near, StandsFor}
use Rattle.doubles_rounding.proofs.Raising.{near_raised}
use Rattle.doubles_sum.specs.Aligned.{Lost, Aligned}
use Rattle.doubles_sum.proofs.Alignments.{aligned}

-- ---- near on another scale, in a sum and in a difference
near_scaled : (n u v c : ℕ) → 0 < c → Near n u v → Near n (u * c) (v * c)
near_scaled n u v c C near = record {
  odd = near.odd;
  above =
      let a : n * v * c < (u + v) * c = mul-lt-mul_of_pos_right near.above C in
      subst (λ (x : ℕ). x < u * c + v * c) (mul_assoc n v c) (subst (λ (x : ℕ). n * v * c < x) (add-mul u v c) a);
  below =
      let a : u * c < (n * v + v) * c = mul-lt-mul_of_pos_right near.below C in
      subst (λ (x : ℕ). u * c < x + v * c) (mul_assoc n v c) (subst (λ (x : ℕ). u * c < x) (add-mul (n * v) v c) a);
}

near_sum : (m n r v : ℕ) → Near r (n * 1024) v → Near (m * 1024 + r) ((m * v + n) * 1024) v
near_sum m n r v near =
    let a : (m * 1024 + r) * v ≡ m * 1024 * v + r * v = add-mul (m * 1024) r v in
    let b : m * 1024 * v ≡ m * v * 1024 = mul_right_comm m 1024 v in
    let o = near.odd in
    let x = near.above in
    let y = near.below in
    record { odd = omega arith; above = omega arith; below = omega arith }

near_difference : (m n r v : ℕ) → r ≤ m * 1024 → n ≤ m * v → Near r (n * 1024) v → Near (m * 1024 - r) ((m * v - n) * 1024) v
near_difference m n r v l k near =
    let a : (m * 1024 - r) * v ≡ m * 1024 * v - r * v = sub_mul (m * 1024) r v in
    let b : m * 1024 * v ≡ m * v * 1024 = mul_right_comm m 1024 v in
    let c : r * v ≤ m * 1024 * v = mul-le-mul_right v l in
    let o = near.odd in
    let x = near.above in
    let y = near.below in
    record { odd = omega arith; above = omega arith; below = omega arith }

-- ---- a number near to another on the scale of 2 ^ e, with 62 digits at least, has its pattern
halved : (n x : ℕ) → n * (2 * x) * 512 ≡ n * x * 1024
halved n x =
    let a : n * (2 * x) ≡ 2 * (n * x) = mul_left_comm n 2 x in
    omega arith

unscaled : (u x : ℕ) → u * 1024 * x * 1 ≡ u * (4 * (128 * (2 * x)))
unscaled u x = mul-one (u * 1024 * x) ∙ mul_assoc u 1024 x ∙ ap (λ (y : ℕ). u * y) (omega arith)

near_units : (n u e : ℕ) → Near n (u * 1024) (2 ^ e) → 2305843009213693952 ≤ n → 0 < e
    → pattern binary64 (n * 2 ^ e) 1024 ≡ pattern binary64 u 1
near_units n u zero near l g = let z : ⊥ = omega arith in absurd z
near_units n u (suc t) near l g =
    let v = 2 ^ suc t in
    let twice : v ≡ 2 * 2 ^ t = pow-succ' 2 t in
    let digits : 53 ≤ size (n / 512) = more_digits 52 (n / 512) ((le-div_iff_mul-le (lit< tt)).1 l) in
    pattern_same binary64 (n * v) 1024 (n * 2 ^ t) 512 (lit< tt) (lit< tt) (ap (λ (x : ℕ). n * x * 512) twice ∙ halved n (2 ^ t))
    ∙ near_raised binary64 n (u * 1024) v 128 t near (pow_pos (suc t)) (lit< tt) (size (n / 512)) refl digits (lit< tt)
    ∙ pattern_same binary64 (u * 1024 * 2 ^ t) (4 * (128 * v)) u 1 (mul-pos (lit< tt) (mul-pos (lit< tt) (pow_pos (suc t)))) (lit< tt)
    (unscaled u (2 ^ t) ∙ ap (λ (x : ℕ). u * (4 * (128 * x))) (sym twice))

-- ---- the sum and the difference
powers : (e f d : ℕ) → d + f ≡ e → 2 ^ d * 2 ^ f ≡ 2 ^ e
powers e f d h = sym (pow-add 2 d f) ∙ ap (λ (x : ℕ). 2 ^ x) h

-- r units of 2 ^ e / 1024 are n units of 2 ^ f, where nothing was lost
exact_units : (n r e f d : ℕ) → d + f ≡ e → r * 2 ^ d ≡ n * 1024 → r * 2 ^ e ≡ n * 2 ^ f * 1024
exact_units n r e f d h x =
    ap (λ (y : ℕ). r * y) (sym (powers e f d h)) ∙ sym (mul_assoc r (2 ^ d) (2 ^ f)) ∙ ap (λ (y : ℕ). y * 2 ^ f) x
    ∙ mul_right_comm n 1024 (2 ^ f)

scaled_sum : (m n e f d : ℕ) → d + f ≡ e → (m * 2 ^ d + n) * 1024 * 2 ^ f ≡ (m * 2 ^ e + n * 2 ^ f) * 1024
scaled_sum m n e f d h =
    mul_right_comm (m * 2 ^ d + n) 1024 (2 ^ f)
    ∙ ap (λ (y : ℕ). y * 1024) (add-mul (m * 2 ^ d) n (2 ^ f)
    ∙ ap (λ (y : ℕ). y + n * 2 ^ f) (mul_assoc m (2 ^ d) (2 ^ f) ∙ ap (λ (y : ℕ). m * y) (powers e f d h)))

scaled_difference : (m n e f d : ℕ) → d + f ≡ e → (m * 2 ^ d - n) * 1024 * 2 ^ f ≡ (m * 2 ^ e - n * 2 ^ f) * 1024
scaled_difference m n e f d h =
    mul_right_comm (m * 2 ^ d - n) 1024 (2 ^ f)
    ∙ ap (λ (y : ℕ). y * 1024) (sub_mul (m * 2 ^ d) n (2 ^ f)
    ∙ ap (λ (y : ℕ). y - n * 2 ^ f) (mul_assoc m (2 ^ d) (2 ^ f) ∙ ap (λ (y : ℕ). m * y) (powers e f d h)))

module _ (p e m o f n d r : ℕ) (a : Fields p e m) (b : Fields o f n) (D : d + f ≡ e) (al : Aligned n d r) where
  -- the aligned digits are below those of the larger number
  pub less_under : o < p → r < m * 1024
  less_under h = go al.stands (le_or_lt 1 d)
    where
      go : (r * 2 ^ d ≡ n * 1024) ⊎ Lost n d r → (1 ≤ d) ⊎ (d < 1) → r < m * 1024
      go (inr x) z = let l : leading ≤ m = a.long (let y = x.far in omega arith) in let s = x.small in omega arith
      go (inl x) (inr z) =
          let zero_d : d ≡ 0 = omega arith in
          let same : r ≡ n * 1024 = sym (mul-one r) ∙ subst (λ (y : ℕ). r * 2 ^ y ≡ n * 1024) zero_d x in
          let u = a.whole in let v = b.whole in
          let ef : f ≡ e = omega arith in
          omega arith
      go (inl x) (inl z) =
          let l : leading ≤ m = a.long (omega arith) in
          let s = b.short in
          let w : r * 2 ^ 1 ≤ r * 2 ^ d = mul-le-mul_left r (pow_mono z) in
          omega arith

  pub added_pattern : pattern binary64 ((m * 1024 + r) * 2 ^ e) 1024 ≡ pattern binary64 (m * 2 ^ e + n * 2 ^ f) 1
  added_pattern = go al.stands
    where
      go : (r * 2 ^ d ≡ n * 1024) ⊎ Lost n d r → pattern binary64 ((m * 1024 + r) * 2 ^ e) 1024 ≡ pattern binary64 (m * 2 ^ e + n * 2 ^ f) 1
      go (inl x) =
          pattern_same binary64 ((m * 1024 + r) * 2 ^ e) 1024 (m * 2 ^ e + n * 2 ^ f) 1 (lit< tt) (lit< tt)
          (mul-one ((m * 1024 + r) * 2 ^ e) ∙ add-mul (m * 1024) r (2 ^ e)
          ∙ ap (λ (y : ℕ). y + r * 2 ^ e) (mul_right_comm m 1024 (2 ^ e)) ∙ ap (λ (y : ℕ). m * 2 ^ e * 1024 + y) (exact_units n r e f d D x)
          ∙ sym (add-mul (m * 2 ^ e) (n * 2 ^ f) 1024))
      go (inr x) =
          let y = x.far in
          let l : leading ≤ m = a.long (omega arith) in
          let s = a.short in
          let t = x.small in
          let near : Near (m * 1024 + r) ((m * 2 ^ e + n * 2 ^ f) * 1024) (2 ^ e) =
          subst (λ (z : ℕ). Near (m * 1024 + r) z (2 ^ e)) (scaled_sum m n e f d D)
          (subst (λ (z : ℕ). Near (m * 1024 + r) ((m * 2 ^ d + n) * 1024 * 2 ^ f) z) (powers e f d D)
          (near_scaled (m * 1024 + r) ((m * 2 ^ d + n) * 1024) (2 ^ d) (2 ^ f) (pow_pos f) (near_sum m n r (2 ^ d) x.near))) in
          near_units (m * 1024 + r) (m * 2 ^ e + n * 2 ^ f) e near (omega arith) (omega arith)

  pub subtracted_pattern : o ≤ p → pattern binary64 ((m * 1024 - r) * 2 ^ e) 1024 ≡ pattern binary64 (m * 2 ^ e - n * 2 ^ f) 1
  subtracted_pattern h = go al.stands
    where
      go : (r * 2 ^ d ≡ n * 1024) ⊎ Lost n d r → pattern binary64 ((m * 1024 - r) * 2 ^ e) 1024 ≡ pattern binary64 (m * 2 ^ e - n * 2 ^ f) 1
      go (inl x) =
          pattern_same binary64 ((m * 1024 - r) * 2 ^ e) 1024 (m * 2 ^ e - n * 2 ^ f) 1 (lit< tt) (lit< tt)
          (mul-one ((m * 1024 - r) * 2 ^ e) ∙ sub_mul (m * 1024) r (2 ^ e)
          ∙ ap (λ (y : ℕ). y - r * 2 ^ e) (mul_right_comm m 1024 (2 ^ e)) ∙ ap (λ (y : ℕ). m * 2 ^ e * 1024 - y) (exact_units n r e f d D x)
          ∙ sym (sub_mul (m * 2 ^ e) (n * 2 ^ f) 1024))
      go (inr x) =
          let y = x.far in
          let l : leading ≤ m = a.long (omega arith) in
          let s = a.short in
          let t = x.small in
          let w : m * 2 ^ 1 ≤ m * 2 ^ d = mul-le-mul_left m (pow_mono {i = 1} {j = d} (omega arith)) in
          let g = b.short in
          let near : Near (m * 1024 - r) ((m * 2 ^ e - n * 2 ^ f) * 1024) (2 ^ e) =
          subst (λ (z : ℕ). Near (m * 1024 - r) z (2 ^ e)) (scaled_difference m n e f d D)
          (subst (λ (z : ℕ). Near (m * 1024 - r) ((m * 2 ^ d - n) * 1024 * 2 ^ f) z) (powers e f d D)
          (near_scaled (m * 1024 - r) ((m * 2 ^ d - n) * 1024) (2 ^ d) (2 ^ f) (pow_pos f)
          (near_difference m n r (2 ^ d) (omega arith) (omega arith) x.near))) in
          near_units (m * 1024 - r) (m * 2 ^ e - n * 2 ^ f) e near (omega arith) (omega arith)

-- ---- as the code has them
module _ (p o e f : ℕ) (a : (e ≡ exponent_of p) × Fields p e (p - e * leading)) (b : (f ≡ exponent_of o) × Fields o f (o - f * leading))
    (h : o ≤ p) where
  pub exponents_of : f ≤ e
  exponents_of = exponents p e (p - e * leading) o f (o - f * leading) a.1 b.1 h

  meets : e - f + f ≡ e
  meets = let g = exponents_of in omega arith

  module _ (r : ℕ) (standing : StandsFor r ((o - f * leading) * 1024) (2 ^ (e - f))) where
    al : Aligned (o - f * leading) (e - f) r
    al = aligned (o - f * leading) (e - f) r b.1.short standing

    pub aligned_most : r ≤ (o - f * leading) * 1024
    aligned_most = al.most

    pub less_of : o < p → r < (p - e * leading) * 1024
    less_of g = less_under p e (p - e * leading) o f (o - f * leading) (e - f) r a.1 b.1 meets al g

    pub sum_is : pattern binary64 (((p - e * leading) * 1024 + r) * 2 ^ e) 1024 ≡ pattern binary64 (units_of p + units_of o) 1
    sum_is =
        added_pattern p e (p - e * leading) o f (o - f * leading) (e - f) r a.1 b.1 meets al
        ∙ ap (λ (x : ℕ). pattern binary64 (x + (o - f * leading) * 2 ^ f) 1) (sym (units_is p e a.0))
        ∙ ap (λ (x : ℕ). pattern binary64 (units_of p + x) 1) (sym (units_is o f b.0))

    -- where the exponent is not 0, the sum has its highest digit in one of the two top places
    pub sum_high : 0 < e → second_place ≤ (p - e * leading) * 1024 + r
    sum_high g = let l = a.1.long g in omega arith

    pub difference_is : pattern binary64 (((p - e * leading) * 1024 - r) * 2 ^ e) 1024 ≡ pattern binary64 (units_of p - units_of o) 1
    difference_is =
        subtracted_pattern p e (p - e * leading) o f (o - f * leading) (e - f) r a.1 b.1 meets al h
        ∙ ap (λ (x : ℕ). pattern binary64 (x - (o - f * leading) * 2 ^ f) 1) (sym (units_is p e a.0))
        ∙ ap (λ (x : ℕ). pattern binary64 (units_of p - x) 1) (sym (units_is o f b.0))
