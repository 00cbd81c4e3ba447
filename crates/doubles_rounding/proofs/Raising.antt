-- A fraction and the odd whole number near to it have one pattern; times a power of two also, where no digit that is kept is missing.
use mathlib.Core.Path.{◌≡◌, refl, sym, ap, ◌∙◌, subst}
use Prim.Native.Nat.{ℕ, zero, suc, ◌+◌, ◌-◌, ◌*◌, ◌/◌, ◌^◌, ◌≤◌, ◌<◌}
use native.Mathlib.Nat.{
  le_trans,
  le_of_eq,
  lt_of_lt_of_le,
  mul_comm,
  mul_assoc,
  mul_left_comm,
  mul_right_comm,
  mul-pos,
  mul-le-mul_right,
  mul-lt-mul_of_pos_right,
  le-div_iff_mul-le,
  div-lt_iff_lt-mul,
}
use native.Mathlib.Omega.{arith}
use lib.Dec.{lit<}
use lib.Pow.{pow-add, pow_pos}
use lib.Ieee.{Format, prec, hid, size}
use lib.Ieee.Digits.{size-lt, size_reaches}
use lib.Ieee.Nearest.{closest, closest_same}
use lib.Ieee.Order.{drop, kept}
use Rattle.doubles_patterns.specs.Patterns.{capped, pattern}
use Rattle.doubles_patterns.proofs.Sizes.{digits_between}
use Rattle.doubles_rounding.specs.Standing.{Near}
use Rattle.doubles_rounding.proofs.Nearness.{near_closest, near_quotient}

-- ---- over a multiple of four
module _ (p n u v w : ℕ) (near : Near n u v) (some : 0 < v) (W : 0 < w) where
  near_drop : drop p n (4 * w) ≡ drop p u (4 * (w * v))
  near_drop = ap (λ (x : ℕ). size x - p) (sym (near_quotient n u v w near some W))

  same_closest : (k : ℕ) → closest n (4 * w * 2 ^ k) ≡ closest u (4 * (w * v) * 2 ^ k)
  same_closest k =
      ap (closest n) (mul_assoc 4 w (2 ^ k))
      ∙ near_closest n u v (w * 2 ^ k) near some (mul-pos W (pow_pos k))
      ∙ ap (closest u) (ap (λ (x : ℕ). 4 * x) (mul_right_comm w (2 ^ k) v) ∙ sym (mul_assoc 4 (w * v) (2 ^ k)))

  near_kept : kept p n (4 * w) ≡ kept p u (4 * (w * v))
  near_kept = same_closest (drop p n (4 * w)) ∙ ap (λ (x : ℕ). closest u (4 * (w * v) * 2 ^ x)) near_drop

pub near_over : (f : Format) (n u v w : ℕ) → Near n u v → 0 < v → 0 < w → pattern f n (4 * w) ≡ pattern f u (4 * (w * v))
unfolding pattern
near_over f n u v w near some W =
    ap (λ (x : ℕ). capped f (x * hid f + kept (prec f) n (4 * w))) (near_drop (prec f) n u v w near some W)
    ∙ ap (λ (x : ℕ). capped f (drop (prec f) u (4 * (w * v)) * hid f + x)) (near_kept (prec f) n u v w near some W)

-- ---- n / c has the digits of 2 ^ b; times 2 ^ t it has t more, and they are dropped
further : (p b t : ℕ) → p ≤ suc b → suc (b + t) - p ≡ suc b - p + t
further p b t h = omega arith

module _ (p b n c t : ℕ) (C : 0 < c) (reached : 2 ^ b ≤ n / c) (below : n / c < 2 ^ suc b) (enough : p ≤ suc b) where
  raised_drop : drop p (n * 2 ^ t) c ≡ suc b - p + t
  raised_drop =
      let least : 2 ^ b * c ≤ n = (le-div_iff_mul-le C).0 reached in
      let most : n < 2 ^ suc b * c = (div-lt_iff_lt-mul C).0 below in
      ap (λ (x : ℕ). x - p)
      (digits_between (b + t) (n * 2 ^ t) c C (le_trans (le_of_eq (turned b (b + t) refl)) (mul-le-mul_right (2 ^ t) least))
      (lt_of_lt_of_le (mul-lt-mul_of_pos_right most (pow_pos t)) (le_of_eq (sym (turned (suc b) (suc (b + t)) (omega arith))))))
      ∙ further p b t enough
    where
      turned : (x y : ℕ) → y ≡ x + t → 2 ^ y * c ≡ 2 ^ x * c * 2 ^ t
      turned x y s = ap (λ (z : ℕ). 2 ^ z * c) s ∙ ap (λ (z : ℕ). z * c) (pow-add 2 x t) ∙ mul_right_comm (2 ^ x) (2 ^ t) c

  raised_kept : kept p (n * 2 ^ t) c ≡ closest n (c * 2 ^ (suc b - p))
  raised_kept =
      let k = suc b - p in
      ap (λ (x : ℕ). closest (n * 2 ^ t) (c * 2 ^ x)) raised_drop
      ∙ closest_same (n * 2 ^ t) (c * 2 ^ (k + t)) n (c * 2 ^ k) (mul-pos C (pow_pos (k + t))) (mul-pos C (pow_pos k))
      (simp (mul_assoc, mul_comm, mul_left_comm, pow-add))

pub raised_pattern : (f : Format) (b n c t : ℕ) → 0 < c → 2 ^ b ≤ n / c → n / c < 2 ^ suc b → prec f ≤ suc b
    → pattern f (n * 2 ^ t) c ≡ capped f ((suc b - prec f + t) * hid f + closest n (c * 2 ^ (suc b - prec f)))
unfolding pattern
raised_pattern f b n c t C l h enough =
    ap (λ (x : ℕ). capped f (x * hid f + kept (prec f) (n * 2 ^ t) c)) (raised_drop (prec f) b n c t C l h enough)
    ∙ ap (λ (x : ℕ). capped f ((suc b - prec f + t) * hid f + x)) (raised_kept (prec f) b n c t C l h enough)

-- ---- so also what is near to it
module _ (f : Format) (n u v w t : ℕ) (near : Near n u v) (some : 0 < v) (W : 0 < w) where
  over_four : 0 < 4 * w
  over_four = mul-pos (lit< tt) W

  over_both : 0 < 4 * (w * v)
  over_both = mul-pos (lit< tt) (mul-pos W some)

  pub near_raised : (z : ℕ) → size (n / (4 * w)) ≡ z → prec f ≤ z → 0 < prec f
      → pattern f (n * 2 ^ t) (4 * w) ≡ pattern f (u * 2 ^ t) (4 * (w * v))
  near_raised zero is enough some_kept = let z : ⊥ = omega arith in absurd z
  near_raised (suc b) is enough some_kept =
      let x = n / (4 * w) in
      let same : u / (4 * (w * v)) ≡ x = near_quotient n u v w near some W in
      let k = suc b - prec f in
      let reached : 2 ^ b ≤ x = size_reaches x b (omega arith) in
      let below : x < 2 ^ suc b = subst (λ (s : ℕ). x < 2 ^ s) is (size-lt x) in
      raised_pattern f b n (4 * w) t over_four reached below enough
      ∙ ap (λ (y : ℕ). capped f ((k + t) * hid f + y)) (same_closest (prec f) n u v w near some W k)
      ∙ sym (raised_pattern f b u (4 * (w * v)) t over_both (subst (λ (y : ℕ). 2 ^ b ≤ y) (sym same) reached)
      (subst (λ (y : ℕ). y < 2 ^ suc b) (sym same) below) enough)
