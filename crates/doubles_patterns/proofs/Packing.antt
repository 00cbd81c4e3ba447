-- The bit pattern of a rounded fraction: `to_bits` of `round` is the sign's weight and `pattern`. Its fields are those of what was kept and
-- dropped, also after a carry, and it is capped where `round` overflows.
use mathlib.Core.Path.{◌≡◌, refl, sym, ap, ◌∙◌, subst}
use mathlib.Core.Bool.{Bool, true, false, cond}
use mathlib.Core.Logic.{◌⊎◌, inl, inr}
use Prim.Native.Nat.{ℕ, zero, suc, ◌+◌, ◌-◌, ◌*◌, ◌/◌, ◌^◌, ◌≤◌, ◌<◌}
use native.Mathlib.Nat.{
  le_trans,
  le_of_eq,
  lt_of_lt_of_le,
  lt_of_le_of_lt,
  mul-one,
  one-mul,
  mul_assoc,
  mul_comm,
  mul-le-mul_left,
  mul_left_comm,
  mul-pos,
  le_of_mul-le-mul_right,
  mul-le-mul_right,
  mul-lt-mul_of_pos_right,
  mul-div_cancel,
  div-one,
  eq-or-lt_of_le,
  zero-lt-suc,
  add_assoc,
  suc-mul,
  pow-succ',
  not-le_of_lt,
  lt_of_not-le,
}
use native.Mathlib.Omega.{arith}
use lib.Dec.{ltb}
use lib.IntN.{ℤ, pos}
use lib.Count.{count_trailing_zeros}
use lib.Pow.{pow-add, pow_pos, pow_mono, pow-lt}
use borrow.Author.Tests.{ltb-true, ltb-false, lt-ltb, le-ltb}
use lib.Ieee.{inf, fin, Format, prec, emax, low, hid, ones, top, up, down, minus, size, odd, units, round, to_bits}
use lib.Ieee.Digits.{odd_val, size-le}
use lib.Ieee.Fits.{down_pos, round_is, two, two-le_pos, reach}
use lib.Ieee.Order.{drop, kept}
use Rattle.doubles_patterns.specs.Patterns.{capped, pattern}
use Rattle.doubles_patterns.proofs.Sizes.{le_or_lt, digits_between, drop_same, kept_same, kept_most, kept_least}

-- ---- a number of units as `to_bits` writes it
written_at : (f : Format) (s : Bool) (m : ℕ) (e : ℤ) (n : ℕ) → m * up e * 2 ^ low f / down e ≡ n
    → to_bits f (fin s m e) ≡ cond s (top f) 0 + (size n - prec f) * hid f + n / 2 ^ (size n - prec f)
unfolding to_bits
written_at f s m e n p = ap (λ (x : ℕ). cond s (top f) 0 + (size x - prec f) * hid f + x / 2 ^ (size x - prec f)) p

-- what has the value n units is written so
written_value : (f : Format) (s : Bool) (m : ℕ) (e : ℤ) (n : ℕ) → m * up e * 2 ^ low f ≡ n * down e
    → to_bits f (fin s m e) ≡ cond s (top f) 0 + (size n - prec f) * hid f + n / 2 ^ (size n - prec f)
written_value f s m e n h = written_at f s m e n (ap (λ (x : ℕ). x / down e) h ∙ mul-div_cancel n (down_pos e))

written_odd : (f : Format) (d : ℕ) (s : Bool) (q k : ℕ)
    → to_bits f (odd d s q k (low f)) ≡ cond s (top f) 0 + (size (q * 2 ^ k) - prec f) * hid f + q * 2 ^ k / 2 ^ (size (q * 2 ^ k) - prec f)
unfolding odd
written_odd f d s zero k = written_value f s 0 (pos 0) (0 * 2 ^ k) (odd_val d s zero k (low f))
written_odd f d s (suc q) k =
    written_value f s (suc q / 2 ^ count_trailing_zeros d (suc q)) (minus (k + count_trailing_zeros d (suc q)) (low f)) (suc q * 2 ^ k)
    (odd_val d s (suc q) k (low f))

digits_of_whole : (b n : ℕ) → 2 ^ b ≤ n → n < 2 ^ suc b → size n ≡ suc b
digits_of_whole b n l h =
    ap size (sym (div-one n))
    ∙ digits_between b n 1 (zero-lt-suc 0) (le_trans (le_of_eq (mul-one (2 ^ b))) l)
    (lt_of_lt_of_le h (le_of_eq (sym (mul-one (2 ^ suc b)))))

-- ---- its fields: k and q again, where q has p digits or k is 0; and one more and half of q, where q is 2 ^ p
fields_at : (p q k n z r : ℕ) → size n - p ≡ z → n / 2 ^ z ≡ r → z * 2 ^ (p - 1) + r ≡ k * 2 ^ (p - 1) + q
    → (size n - p) * 2 ^ (p - 1) + n / 2 ^ (size n - p) ≡ k * 2 ^ (p - 1) + q
fields_at p q k n z r a b c = rw (a, b) c

none : (z p : ℕ) → z ≤ p → z - p ≡ 0
none z p h = omega arith

over : (z p k : ℕ) → 0 < p → z ≡ suc (p - 1 + k) → z - p ≡ k
over z p k P h = omega arith

twice : (p : ℕ) → 0 < p → 2 ^ p ≡ 2 * 2 ^ (p - 1)
twice p P = ap (λ (x : ℕ). 2 ^ x) (same p P) ∙ pow-succ' 2 (p - 1)
  where
    same : (p : ℕ) → 0 < p → p ≡ suc (p - 1)
    same p P = omega arith

carry : (k h q : ℕ) → q ≡ 2 * h → suc k * h + h ≡ k * h + q
carry k h q e = simp (suc_is k h) (omega arith)
  where
    suc_is : (k h : ℕ) → suc k * h ≡ k * h + h
    suc_is k h = suc-mul k h

pub fields : (p q k : ℕ) → 0 < p → q ≤ 2 ^ p → (0 < k → 2 ^ (p - 1) ≤ q)
    → (size (q * 2 ^ k) - p) * 2 ^ (p - 1) + q * 2 ^ k / 2 ^ (size (q * 2 ^ k) - p) ≡ k * 2 ^ (p - 1) + q
fields p q k P most least = go (eq-or-lt_of_le most)
  where
    power : (p k : ℕ) → 0 < p → p + k ≡ p - 1 + suc k
    power p k P = omega arith

    doubled : (p k : ℕ) → 0 < p → p + k ≡ suc (p - 1 + k)
    doubled p k P = omega arith

    short : (q k : ℕ) → q < 2 ^ p → (0 < k → 2 ^ (p - 1) ≤ q)
        → (size (q * 2 ^ k) - p) * 2 ^ (p - 1) + q * 2 ^ k / 2 ^ (size (q * 2 ^ k) - p) ≡ k * 2 ^ (p - 1) + q
    short q zero less least =
        fields_at p q 0 (q * 2 ^ 0) 0 q (none (size (q * 1)) p (size-le (q * 1) p (subst (λ (x : ℕ). x < 2 ^ p) (sym (mul-one q)) less)))
        (div-one (q * 1) ∙ mul-one q) refl
    short q (suc k) less least =
        let n = q * 2 ^ suc k in
        let low_end : 2 ^ (p - 1 + suc k) ≤ n =
        le_trans (le_of_eq (pow-add 2 (p - 1) (suc k))) (mul-le-mul_right (2 ^ suc k) (least (zero-lt-suc k))) in
        let high_end : n < 2 ^ suc (p - 1 + suc k) =
        lt_of_lt_of_le (mul-lt-mul_of_pos_right less (pow_pos (suc k)))
        (le_of_eq (sym (pow-add 2 p (suc k)) ∙ ap (λ (x : ℕ). 2 ^ x) (doubled p (suc k) P))) in
        fields_at p q (suc k) n (suc k) q (over (size n) p (suc k) P (digits_of_whole (p - 1 + suc k) n low_end high_end))
        (mul-div_cancel q (pow_pos (suc k))) refl

    go : (q ≡ 2 ^ p) ⊎ (q < 2 ^ p) → (size (q * 2 ^ k) - p) * 2 ^ (p - 1) + q * 2 ^ k / 2 ^ (size (q * 2 ^ k) - p) ≡ k * 2 ^ (p - 1) + q
    go (inr less) = short q k less least
    go (inl e) =
        let n = q * 2 ^ k in
        let is : n ≡ 2 ^ (p - 1) * 2 ^ suc k =
        ap (λ (x : ℕ). x * 2 ^ k) e ∙ sym (pow-add 2 p k) ∙ ap (λ (x : ℕ). 2 ^ x) (power p k P) ∙ pow-add 2 (p - 1) (suc k) in
        let low_end : 2 ^ (p - 1 + suc k) ≤ n = le_of_eq (pow-add 2 (p - 1) (suc k) ∙ sym is) in
        let high_end : n < 2 ^ suc (p - 1 + suc k) =
        lt_of_le_of_lt (le_of_eq (is ∙ sym (pow-add 2 (p - 1) (suc k)))) (pow-lt (lt_suc (p - 1 + suc k))) in
        fields_at p q k n (suc k) (2 ^ (p - 1)) (over (size n) p (suc k) P (digits_of_whole (p - 1 + suc k) n low_end high_end))
        (ap (λ (x : ℕ). x / 2 ^ suc k) is ∙ mul-div_cancel (2 ^ (p - 1)) (pow_pos (suc k))) (carry k (2 ^ (p - 1)) q (e ∙ twice p P))
      where
        lt_suc : (x : ℕ) → x < suc x
        lt_suc x = omega arith

-- ---- where it overflows: h is 2 ^ (p - 1), and E is twice the largest exponent
module _ (h q k E : ℕ) (most : q ≤ 2 * h) (least : 0 < k → h ≤ q) (H : 0 < h) (Epos : 1 < E) where
  over_values : E ≤ k → h * 2 ^ E ≤ q * 2 ^ k
  over_values e = le_trans (mul-le-mul_left h (pow_mono e)) (mul-le-mul_right (2 ^ k) (least (omega arith)))

  next_values : suc k ≡ E → 2 * h ≤ q → h * 2 ^ E ≤ q * 2 ^ k
  next_values e l =
      le_trans (le_of_eq (ap (λ (x : ℕ). h * 2 ^ x) (sym e) ∙ ap (λ (x : ℕ). h * x) (pow-succ' 2 k) ∙ mul_left_comm h 2 (2 ^ k)
      ∙ sym (mul_assoc 2 h (2 ^ k)))) (mul-le-mul_right (2 ^ k) l)

  next_back : suc k ≡ E → h * 2 ^ E ≤ q * 2 ^ k → 2 * h ≤ q
  next_back e l =
      le_of_mul-le-mul_right (le_trans
      (le_of_eq (sym (ap (λ (x : ℕ). h * 2 ^ x) (sym e) ∙ ap (λ (x : ℕ). h * x) (pow-succ' 2 k) ∙ mul_left_comm h 2 (2 ^ k)
      ∙ sym (mul_assoc 2 h (2 ^ k))))) l) (pow_pos k)

  under_values : suc (suc k) ≤ E → q * 2 ^ k < h * 2 ^ E
  under_values e =
      let a : q * 2 ^ k ≤ 2 * h * 2 ^ k = mul-le-mul_right (2 ^ k) most in
      let b : h * 2 ^ suc (suc k) ≤ h * 2 ^ E = mul-le-mul_left h (pow_mono e) in
      let c : h * 2 ^ suc (suc k) ≡ 4 * (h * 2 ^ k) = simp (pow-succ', mul_left_comm) (omega arith) in
      let d : 2 * h * 2 ^ k ≡ 2 * (h * 2 ^ k) = mul_assoc 2 h (2 ^ k) in
      let g : 0 < h * 2 ^ k = mul-pos H (pow_pos k) in
      omega arith

  -- the packed number
  packed_over : suc E * h ≤ k * h + q → h * 2 ^ E ≤ q * 2 ^ k
  packed_over l = go (le_or_lt E k)
    where
      over_one : k < E → (suc k ≡ E) ⊎ (suc k < E) → h * 2 ^ E ≤ q * 2 ^ k
      over_one g (inl e) =
          next_values e (let a : suc E * h ≡ k * h + h + h = rw (← e, suc-mul (suc k) h, suc-mul k h) refl in omega arith)
      over_one g (inr e) =
          let a : suc (suc k) * h ≤ E * h = mul-le-mul_right h e in
          let b : suc (suc k) * h ≡ k * h + h + h = rw (suc-mul (suc k) h, suc-mul k h) refl in
          let c : suc E * h ≡ E * h + h = suc-mul E h in
          let z : ⊥ = omega arith in absurd z

      go : (E ≤ k) ⊎ (k < E) → h * 2 ^ E ≤ q * 2 ^ k
      go (inl e) = over_values e
      go (inr g) = over_one g (eq-or-lt_of_le g)

  packed_back : h * 2 ^ E ≤ q * 2 ^ k → suc E * h ≤ k * h + q
  packed_back l = go (le_or_lt E k)
    where
      over_one : (suc k ≡ E) ⊎ (suc k < E) → suc E * h ≤ k * h + q
      over_one (inl e) =
          let a : suc E * h ≡ k * h + h + h = rw (← e, suc-mul (suc k) h, suc-mul k h) refl in
          let b = next_back e l in
          omega arith
      over_one (inr e) = absurd (not-le_of_lt (under_values e) l)

      go : (E ≤ k) ⊎ (k < E) → suc E * h ≤ k * h + q
      go (inl e) =
          let a : E * h ≤ k * h = mul-le-mul_right h e in
          let b : suc E * h ≡ E * h + h = suc-mul E h in
          let c : h ≤ q = least (omega arith) in
          omega arith
      go (inr g) = over_one (eq-or-lt_of_le g)

-- ---- `units` as `to_bits` writes it
overflow_is : (p e : ℕ) → 2 ≤ p → e + p - 2 + suc e ≡ p - 1 + (2 * e)
overflow_is p e P = omega arith

ones_is : (e : ℕ) → 2 * e + 1 ≡ suc (2 * e)
ones_is e = omega arith

some : (p e : ℕ) → 2 ≤ p → p ≤ suc e → 1 < 2 * e
some p e P R = omega arith

module _ (f : Format) (s : Bool) (q k : ℕ) (most : q ≤ 2 ^ prec f) (least : 0 < k → hid f ≤ q) where
  most_hid : q ≤ 2 * hid f
  most_hid = subst (λ (x : ℕ). q ≤ x) (twice (prec f) (two-le_pos (prec f) (two f))) most

  limit : 2 ^ (low f + suc (emax f)) ≡ hid f * 2 ^ (2 * emax f)
  limit = ap (λ (x : ℕ). 2 ^ x) (overflow_is (prec f) (emax f) (two f)) ∙ pow-add 2 (prec f - 1) (2 * emax f)

  at_limit : ones f * hid f ≡ suc (2 * emax f) * hid f
  at_limit = ap (λ (x : ℕ). x * hid f) (ones_is (emax f))

  hid_pos : 0 < hid f
  hid_pos = pow_pos (prec f - 1)

  far : 1 < 2 * emax f
  far = some (prec f) (emax f) (two f) (reach f)

  capped_under : q * 2 ^ k < 2 ^ (low f + suc (emax f)) → capped f (k * hid f + q) ≡ k * hid f + q
  capped_under h =
      let l : k * hid f + q < ones f * hid f =
      lt_of_not-le (λ (g : ones f * hid f ≤ k * hid f + q).
      not-le_of_lt h (subst (λ (x : ℕ). x ≤ q * 2 ^ k) (sym limit)
      (packed_over (hid f) q k (2 * emax f) most_hid least hid_pos far (subst (λ (x : ℕ). x ≤ k * hid f + q) at_limit g)))) in
      ap (λ (b : Bool). cond b (k * hid f + q) (ones f * hid f)) (lt-ltb (k * hid f + q) (ones f * hid f) l)

  capped_over : 2 ^ (low f + suc (emax f)) ≤ q * 2 ^ k → capped f (k * hid f + q) ≡ ones f * hid f
  capped_over h =
      let l : ones f * hid f ≤ k * hid f + q =
      subst (λ (x : ℕ). x ≤ k * hid f + q) (sym at_limit)
      (packed_back (hid f) q k (2 * emax f) most_hid least hid_pos far (subst (λ (x : ℕ). x ≤ q * 2 ^ k) limit h)) in
      ap (λ (b : Bool). cond b (k * hid f + q) (ones f * hid f)) (le-ltb (k * hid f + q) (ones f * hid f) l)

  to_bits_inf : to_bits f (inf s) ≡ cond s (top f) 0 + ones f * hid f
  unfolding to_bits
  to_bits_inf = refl

  units_pattern : to_bits f (units f s q k) ≡ cond s (top f) 0 + capped f (k * hid f + q)
  unfolding units
  units_pattern = go (ltb (q * 2 ^ k) (2 ^ (low f + suc (emax f)))) refl
    where
      go : (b : Bool) → ltb (q * 2 ^ k) (2 ^ (low f + suc (emax f))) ≡ b
          → to_bits f (cond b (odd (suc (prec f)) s q k (low f)) (inf s)) ≡ cond s (top f) 0 + capped f (k * hid f + q)
      go true e =
          written_odd f (suc (prec f)) s q k
          ∙ add_assoc (cond s (top f) 0) ((size (q * 2 ^ k) - prec f) * hid f) (q * 2 ^ k / 2 ^ (size (q * 2 ^ k) - prec f))
          ∙ ap (λ (x : ℕ). cond s (top f) 0 + x)
          (fields (prec f) q k (two-le_pos (prec f) (two f)) most least
          ∙ sym (capped_under (ltb-true (q * 2 ^ k) (2 ^ (low f + suc (emax f))) e)))
      go false e =
          to_bits_inf ∙ ap (λ (x : ℕ). cond s (top f) 0 + x) (sym (capped_over (ltb-false (q * 2 ^ k) (2 ^ (low f + suc (emax f))) e)))

-- ---- n / d units, rounded, as `to_bits` writes it
round_units : (f : Format) (s : Bool) (n d : ℕ) → 0 < d → round f s n (d * 2 ^ low f) ≡ units f s (kept (prec f) n d) (drop (prec f) n d)
round_units f s n d h =
    let l = 2 ^ low f in
    let p = prec f in
    let L : 0 < d * l = mul-pos h (pow_pos (low f)) in
    let e : n * l * d ≡ n * (d * l) = mul_assoc n l d ∙ ap (λ (x : ℕ). n * x) (mul_comm l d) in
    round_is f s n (d * l)
    ∙ ap (λ (z : ℕ). units f s z (drop p (n * l) (d * l))) (kept_same p (n * l) (d * l) n d L h e)
    ∙ ap (λ (z : ℕ). units f s (kept p n d) z) (drop_same p (n * l) (d * l) n d L h e)

pub round_pattern_over : (f : Format) (s : Bool) (n d : ℕ) → 0 < d
    → to_bits f (round f s n (d * 2 ^ low f)) ≡ cond s (top f) 0 + pattern f n d
unfolding pattern
round_pattern_over f s n d h =
    ap (to_bits f) (round_units f s n d h)
    ∙ units_pattern f s (kept (prec f) n d) (drop (prec f) n d) (kept_most (prec f) n d)
    (kept_least (prec f) n d (two-le_pos (prec f) (two f)))

pub round_pattern : (f : Format) (s : Bool) (n : ℕ) → to_bits f (round f s n (2 ^ low f)) ≡ cond s (top f) 0 + pattern f n 1
round_pattern f s n = ap (λ (x : ℕ). to_bits f (round f s n x)) (sym (one-mul (2 ^ low f))) ∙ round_pattern_over f s n 1 (zero-lt-suc 0)

-- equal fractions have one pattern
pub pattern_same : (f : Format) (a b c d : ℕ) → 0 < b → 0 < d → a * d ≡ c * b → pattern f a b ≡ pattern f c d
unfolding pattern
pattern_same f a b c d B D e =
    ap (λ (z : ℕ). capped f (z * hid f + kept (prec f) a b)) (drop_same (prec f) a b c d B D e)
    ∙ ap (λ (z : ℕ). capped f (drop (prec f) c d * hid f + z)) (kept_same (prec f) a b c d B D e)
