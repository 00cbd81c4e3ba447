-- The code's rounding: a number moved up until the digits that are kept stand above its last eleven places, and these rounded off.
use mathlib.Core.Path.{◌≡◌, refl, sym, ap, ◌∙◌, subst}
use mathlib.Core.Logic.{◌⊎◌, inl, inr}
use Prim.Native.Nat.{ℕ, zero, suc, ◌+◌, ◌-◌, ◌*◌, ◌/◌, ◌%◌, ◌^◌, ◌≤◌, ◌<◌, min}
use native.Mathlib.Nat.{
  le_trans,
  le_of_eq,
  lt_of_lt_of_le,
  lt_of_le_of_lt,
  mul-one,
  mul_assoc,
  mul-pos,
  mul-le-mul_right,
  mul-lt-mul_of_pos_right,
  div-lt_iff_lt-mul,
  eq-or-lt_of_le,
  mod-eq_of_lt,
  zero-lt-suc,
}
use native.Mathlib.Omega.{arith}
use mathlib.Core.Bool.{Bool, true, false, cond}
use borrow.Author.Tests.{lt-ltb, le-ltb, ltb-true, ltb-false, leb-true, leb-false}
use lib.Dec.{lit<, ltb, leb}
use lib.Pow.{pow-add, pow_pos, pow_mono}
use lib.Count.{count_leading_zeros, leading_top, leading_unique}
use lib.Ieee.{Format, binary64, prec, hid, size}
use lib.Ieee.Digits.{size-le}
use lib.Ieee.Nearest.{closest, closest_same}
use lib.Ieee.Order.{drop}
use Rattle.doubles_patterns.specs.Patterns.{word, top_place, second_place, leading, infinity, capped, pattern}
use Rattle.doubles_rounding.specs.Shifted.{Shifted}
use Rattle.doubles_patterns.proofs.Sizes.{le_or_lt, digits_between}
use Rattle.doubles_rounding.proofs.Nearness.{compare_lt, compare_eq, compare_gt, closest_at}

-- ---- eleven places rounded off
pub eleven : (t : ℕ) → t / 2048 + (t % 2048 + t / 2048 % 2 + 1023) / 2048 ≡ closest t 2048
eleven t = go (t / 2048) (t % 2048) refl refl (le_or_lt 1024 (t % 2048))
  where
    tie : (q : ℕ) → q + (1024 + q % 2 + 1023) / 2048 ≡ q + q % 2
    tie q = omega arith

    lower : (q r : ℕ) → r < 1024 → q + (r + q % 2 + 1023) / 2048 ≡ q
    lower q r h = omega arith

    upper : (q r : ℕ) → r < 2048 → 1024 < r → q + (r + q % 2 + 1023) / 2048 ≡ suc q
    upper q r g h = omega arith

    go : (q r : ℕ) → t / 2048 ≡ q → t % 2048 ≡ r → (1024 ≤ r) ⊎ (r < 1024) → q + (r + q % 2 + 1023) / 2048 ≡ closest t 2048
    go q r d m (inr h) = lower q r h ∙ sym (closest_at t 2048 q r _ d m (compare_lt (r * 2) 2048 (omega arith)))
    go q r d m (inl h) = over (eq-or-lt_of_le h)
      where
        over : (1024 ≡ r) ⊎ (1024 < r) → q + (r + q % 2 + 1023) / 2048 ≡ closest t 2048
        over (inl e) =
            ap (λ (x : ℕ). q + (x + q % 2 + 1023) / 2048) (sym e) ∙ tie q
            ∙ sym (closest_at t 2048 q r _ d m (compare_eq (r * 2) 2048 (omega arith)))
        over (inr g) = upper q r (omega arith) g ∙ sym (closest_at t 2048 q r _ d m (compare_gt (r * 2) 2048 (omega arith)))

-- ---- how many digits are dropped of a fraction over 1024, and its pattern then
drop_of : (p x a e : ℕ) → 10 ≤ a + e → 2 ^ a * 2 ^ e ≤ x → x < 2 ^ suc a * 2 ^ e → drop p x 1024 ≡ suc (a + e - 10) - p
drop_of p x a e g l h =
    ap (λ (z : ℕ). z - p)
    (digits_between (a + e - 10) x 1024 (lit< tt) (le_trans (le_of_eq (powers a (a + e - 10) (omega arith))) l)
    (lt_of_lt_of_le h (le_of_eq (sym (powers (suc a) (suc (a + e - 10)) (omega arith))))))
  where
    powers : (x y : ℕ) → y + 10 ≡ x + e → 2 ^ y * 1024 ≡ 2 ^ x * 2 ^ e
    powers x y s = sym (pow-add 2 y 10) ∙ ap (λ (z : ℕ). 2 ^ z) s ∙ pow-add 2 x e

pattern_at : (f : Format) (x k q : ℕ) → drop (prec f) x 1024 ≡ k → closest x (1024 * 2 ^ k) ≡ q
    → pattern f x 1024 ≡ capped f (k * hid f + q)
unfolding pattern
pattern_at f x k q d e =
    ap (λ (z : ℕ). capped f (z * hid f + closest x (1024 * 2 ^ z))) d ∙ ap (λ (z : ℕ). capped f (k * hid f + z)) e

-- ---- moved up by r places
pub moved : (s e r : ℕ) → Shifted s e r
    → pattern binary64 (s * 2 ^ e) 1024 ≡ capped binary64 ((e + 1 - r) * hid binary64 + closest (s * 2 ^ r) 2048)
moved s e r h =
    let k = e + 1 - r in
    let power : 2 ^ e * 2 ^ 11 ≡ 2 ^ r * (2 ^ 10 * 2 ^ k) =
    sym (pow-add 2 e 11) ∙ ap (λ (x : ℕ). 2 ^ x) (sums e r h.most) ∙ pow-add 2 r (10 + k) ∙ ap (λ (x : ℕ). 2 ^ r * x) (pow-add 2 10 k) in
    pattern_at binary64 (s * 2 ^ e) k (closest (s * 2 ^ r) 2048) h.dropped
    (closest_same (s * 2 ^ e) (1024 * 2 ^ k) (s * 2 ^ r) 2048 (mul-pos (lit< tt) (pow_pos k)) (lit< tt)
    (mul_assoc s (2 ^ e) 2048 ∙ ap (λ (x : ℕ). s * x) power ∙ sym (mul_assoc s (2 ^ r) (1024 * 2 ^ k))))
  where
    sums : (e r : ℕ) → r ≤ e + 1 → e + 11 ≡ r + (10 + (e + 1 - r))
    sums e r h = omega arith

-- ---- the count of places
pub shifted_high : (s e z : ℕ) → 0 < s → s < 2 ^ 64 → count_leading_zeros 64 s ≡ z → z ≤ e + 1 → Shifted s e z
shifted_high s e z some small count h =
    let t = leading_top 64 s some small in
    let j = t.0 in
    let sum : z + suc j ≡ 64 = subst (λ (x : ℕ). x + suc j ≡ 64) count t.1 in
    record {
      most = h;
      narrow = omega arith;
      fits =
          lt_of_lt_of_le (mul-lt-mul_of_pos_right t.3 (pow_pos z))
          (le_of_eq (sym (pow-add 2 (suc j) z) ∙ ap (λ (x : ℕ). 2 ^ x) (turn z j sum)));
      dropped =
          drop_of 53 (s * 2 ^ e) j e (deep z j e sum h) (mul-le-mul_right (2 ^ e) t.2) (mul-lt-mul_of_pos_right t.3 (pow_pos e))
          ∙ count_is z j e sum h;
    }
  where
    turn : (z j : ℕ) → z + suc j ≡ 64 → suc j + z ≡ 64
    turn z j h = omega arith

    deep : (z j e : ℕ) → z + suc j ≡ 64 → z ≤ e + 1 → 10 ≤ j + e
    deep z j e s h = omega arith

    count_is : (z j e : ℕ) → z + suc j ≡ 64 → z ≤ e + 1 → suc (j + e - 10) - 53 ≡ e + 1 - z
    count_is z j e s h = omega arith

pub shifted_low : (s e z : ℕ) → 0 < s → s < 2 ^ 64 → count_leading_zeros 64 s ≡ z → e + 1 < z → Shifted s e (e + 1)
shifted_low s e z some small count h =
    let t = leading_top 64 s some small in
    let j = t.0 in
    let sum : z + suc j ≡ 64 = subst (λ (x : ℕ). x + suc j ≡ 64) count t.1 in
    record {
      most = omega arith;
      narrow = omega arith;
      fits =
          lt_of_lt_of_le (mul-lt-mul_of_pos_right t.3 (pow_pos (e + 1)))
          (le_trans (le_of_eq (sym (pow-add 2 (suc j) (e + 1)))) (pow_mono (under z j e sum h)));
      dropped = none (size (s * 2 ^ e / 1024)) e
          (size-le (s * 2 ^ e / 1024) 52 ((div-lt_iff_lt-mul (lit< tt)).1
          (lt_of_lt_of_le (mul-lt-mul_of_pos_right t.3 (pow_pos e))
          (le_trans (le_of_eq (sym (pow-add 2 (suc j) e))) (pow_mono (few z j e sum h))))));
    }
  where
    under : (z j e : ℕ) → z + suc j ≡ 64 → e + 1 < z → suc j + (e + 1) ≤ 64
    under z j e s h = omega arith

    few : (z j e : ℕ) → z + suc j ≡ 64 → e + 1 < z → suc j + e ≤ 62
    few z j e s h = omega arith

    none : (x e : ℕ) → x ≤ 52 → x - 53 ≡ e + 1 - (e + 1)
    none x e h = omega arith

-- ---- with the word's end
module _ (s e r q : ℕ) (h : Shifted s e r) (is : q ≡ closest (s * 2 ^ r % word) 2048) where
  pub moved_to : pattern binary64 (s * 2 ^ e) 1024 ≡ capped binary64 ((e + 1 - r) * leading + q)
  moved_to =
      moved s e r h ∙ ap (λ (x : ℕ). capped binary64 ((e + 1 - r) * leading + x))
      (ap (λ (x : ℕ). closest x 2048) (sym (mod-eq_of_lt h.fits)) ∙ sym is)

-- all zeros in front are taken where the exponent has as many steps, and else one more than its steps
pub shifted_least : (s e z r : ℕ) → 0 < s → s < 2 ^ 64 → count_leading_zeros 64 s ≡ z → r ≡ min z (e + 1) → Shifted s e r
shifted_least s e z r some small count least = go (leb z (e + 1)) refl
  where
    go : (b : Bool) → leb z (e + 1) ≡ b → Shifted s e r
    go true t =
        let l : z ≤ e + 1 = leb-true z (e + 1) t in
        let own : z ≡ r = omega (arith, least) in
        subst (Shifted s e) own (shifted_high s e z some small count l)
    go false t =
        let l : e + 1 < z = leb-false z (e + 1) t in
        let own : e + 1 ≡ r = omega (arith, least) in
        subst (Shifted s e) own (shifted_low s e z some small count l)

-- ---- a sum of like signs: its highest digit is one of the two top places, or the exponent is 0
pub shifted_none : (s e : ℕ) → top_place ≤ s → s < word → Shifted s e 0
shifted_none s e l h = shifted_high s e 0 (omega arith) h (sym (leading_unique 64 s 0 64 refl h (omega arith))) (omega arith)

pub shifted_one : (s e : ℕ) → s < top_place → (0 < e → second_place ≤ s) → Shifted s e 1
shifted_one s zero h l = record {
  most = omega arith;
  narrow = omega arith;
  fits = omega arith;
  dropped =
      none (size (s * 2 ^ 0 / 1024))
      (size-le (s * 2 ^ 0 / 1024) 53 ((div-lt_iff_lt-mul (lit< tt)).1 (lt_of_le_of_lt (le_of_eq (mul-one s)) h)));
}
  where
    none : (x : ℕ) → x ≤ 53 → x - 53 ≡ 0 + 1 - 1
    none x h = omega arith
shifted_one s (suc e) h l =
    let g : second_place ≤ s = l (zero-lt-suc e) in
    shifted_high s (suc e) 1 (omega arith) (omega arith) (sym (leading_unique 64 s 1 63 refl h (omega arith))) (omega arith)

-- the code's packing
module _ (k q c : ℕ) (is : q ≡ c) where
  pub packed_under : k * leading + q < infinity → k * leading + q ≡ capped binary64 (k * leading + c)
  packed_under l =
      sym (ap (λ (x : ℕ). capped binary64 (k * leading + x)) (sym is)
      ∙ ap (λ (b : Bool). cond b (k * leading + q) infinity) (lt-ltb (k * leading + q) infinity l))

  pub packed_over : infinity ≤ k * leading + q → infinity ≡ capped binary64 (k * leading + c)
  packed_over l =
      sym (ap (λ (x : ℕ). capped binary64 (k * leading + x)) (sym is)
      ∙ ap (λ (b : Bool). cond b (k * leading + q) infinity) (le-ltb (k * leading + q) infinity l))

  pub packed_least : (r : ℕ) → r ≡ min (k * leading + q) infinity → (r ≡ capped binary64 (k * leading + c)) × (r ≤ infinity)
  packed_least r least = go (ltb (k * leading + q) infinity) refl
    where
      go : (b : Bool) → ltb (k * leading + q) infinity ≡ b → (r ≡ capped binary64 (k * leading + c)) × (r ≤ infinity)
      go true t =
          let l : k * leading + q < infinity = ltb-true (k * leading + q) infinity t in
          let own : r ≡ k * leading + q = omega (arith, least) in
          (own ∙ packed_under l, omega (arith, least))
      go false t =
          let l : infinity ≤ k * leading + q = ltb-false (k * leading + q) infinity t in
          let own : r ≡ infinity = omega (arith, least) in
          (own ∙ packed_over l, omega (arith, least))

pub packed_none : (s e : ℕ) → Shifted s e 0 → capped binary64 ((e + 1) * leading + closest s 2048) ≡ pattern binary64 (s * 2 ^ e) 1024
packed_none s e h =
    sym (moved s e 0 h ∙ ap (λ (x : ℕ). capped binary64 ((e + 1 - 0) * leading + closest x 2048)) (mul-one s)
    ∙ ap (λ (x : ℕ). capped binary64 (x * leading + closest s 2048)) (back (e + 1)))
  where
    back : (x : ℕ) → x - 0 ≡ x
    back x = omega arith

pub packed_one : (s e : ℕ) → Shifted s e 1 → capped binary64 (e * leading + closest (s * 2) 2048) ≡ pattern binary64 (s * 2 ^ e) 1024
packed_one s e h = sym (moved s e 1 h ∙ ap (λ (x : ℕ). capped binary64 (x * leading + closest (s * 2) 2048)) (back e))
  where
    back : (e : ℕ) → e + 1 - 1 ≡ e
    back e = omega arith
