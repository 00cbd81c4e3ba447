-- The value of a finite pattern in units, and how two values on one scale compare on another.
use mathlib.Core.Path.{◌≡◌, refl, sym, ap, ◌∙◌, subst}
use mathlib.Core.Bool.{Bool, true, false, cond}
use Prim.Native.Nat.{ℕ, zero, suc, ◌+◌, ◌-◌, ◌*◌, ◌/◌, ◌%◌, ◌^◌, ◌≤◌, ◌<◌}
use native.Mathlib.Nat.{
  mul_comm,
  add-mul,
  suc-mul,
  mul-lt-mul_of_pos_right,
  lt_of_mul-lt-mul_right,
  le_of_mul-le-mul_right,
  mul-le-mul_right,
  mul-sub,
  mod-mod_of_dvd,
  dvd-mul_right,
  div-add-mod',
  div-lt_iff_lt-mul,
}
use native.Mathlib.Omega.{arith}
use lib.Dec.{ltb, leb, eqb}
use lib.Pow.{pow_pos}
use borrow.Author.Tests.{ltb-true, ltb-false, lt-ltb, le-ltb, ne_eqb}
use lib.Ieee.{Float, nan, inf, Format, prec, low, hid, ones, top, odd, of_fields, of_bits}
use lib.Ieee.Exact.{HasValue, odd_sign}

-- ---- a finite pattern
zero_field : (f : Format) (s : Bool) (t : ℕ) → of_fields f s 0 t ≡ odd (prec f) s t 0 (low f)
unfolding of_fields
zero_field f s t = refl

other_field : (f : Format) (s : Bool) (x t : ℕ) → suc x < ones f → of_fields f s (suc x) t ≡ odd (prec f) s (hid f + t) x (low f)
unfolding of_fields
other_field f s x t h =
    ap (λ (b : Bool). cond b (cond (eqb t 0) (inf s) nan) (odd (prec f) s (hid f + t) x (low f)))
    (ne_eqb (suc x) (ones f) (λ (e : suc x ≡ ones f). apart (suc x) (ones f) h e))
  where
    apart : (a b : ℕ) → a < b → a ≡ b → ⊥
    apart a b h e = omega arith

fields_value : (f : Format) (s : Bool) (x t p : ℕ) → x < ones f → p ≡ x * hid f + t
    → HasValue (of_fields f s x t) s ((p - (x - 1) * hid f) * 2 ^ (x - 1)) (2 ^ low f)
fields_value f s zero t p h e =
    subst (λ (v : Float). HasValue v s ((p - 0 * hid f) * 2 ^ 0) (2 ^ low f)) (sym (zero_field f s t))
    (subst (λ (y : ℕ). HasValue (odd (prec f) s t 0 (low f)) s (y * 2 ^ 0) (2 ^ low f)) (digits (hid f) t p e)
    (odd_sign (prec f) s t 0 (low f)))
  where
    digits : (h t p : ℕ) → p ≡ 0 * h + t → t ≡ p - 0 * h
    digits h t p e = omega arith
fields_value f s (suc x) t p h e =
    subst (λ (y : ℕ). HasValue (of_fields f s (suc x) t) s ((p - y * hid f) * 2 ^ y) (2 ^ low f)) (before x)
    (subst (λ (v : Float). HasValue v s ((p - x * hid f) * 2 ^ x) (2 ^ low f)) (sym (other_field f s x t h))
    (subst (λ (y : ℕ). HasValue (odd (prec f) s (hid f + t) x (low f)) s (y * 2 ^ x) (2 ^ low f))
    (digits (x * hid f) (hid f) t p (e ∙ ap (λ (z : ℕ). z + t) (suc-mul x (hid f))))
    (odd_sign (prec f) s (hid f + t) x (low f))))
  where
    before : (x : ℕ) → x ≡ suc x - 1
    before x = omega arith

    digits : (a h t p : ℕ) → p ≡ a + h + t → h + t ≡ p - a
    digits a h t p e = omega arith

two_fields : (f : Format) (b : ℕ) → b % top f ≡ b % top f / hid f * hid f + b % hid f
two_fields f b =
    sym (ap (λ (y : ℕ). b % top f / hid f * hid f + y) (sym (mod-mod_of_dvd (hid f) b (dvd-mul_right (hid f) (suc (ones f)))))
    ∙ div-add-mod' (b % top f) (hid f))

pub of_bits_is : (f : Format) (b : ℕ) → of_bits f b ≡ of_fields f (leb (top f) b) (b % top f / hid f) (b % hid f)
unfolding of_bits
of_bits_is f b = refl

pub finite_value : (f : Format) (b : ℕ) → b % top f < ones f * hid f
    → HasValue (of_bits f b) (leb (top f) b) ((b % top f - (b % top f / hid f - 1) * hid f) * 2 ^ (b % top f / hid f - 1)) (2 ^ low f)
finite_value f b h =
    let p = b % top f in
    subst (λ (v : Float). HasValue v (leb (top f) b) ((p - (p / hid f - 1) * hid f) * 2 ^ (p / hid f - 1)) (2 ^ low f))
    (sym (of_bits_is f b))
    (fields_value f (leb (top f) b) (p / hid f) (b % hid f) p ((div-lt_iff_lt-mul (pow_pos (prec f - 1))).1 h) (two_fields f b))

-- ---- two numbers on another scale
pub sub_mul : (a b k : ℕ) → (a - b) * k ≡ a * k - b * k
sub_mul a b k = rw (mul_comm (a - b) k, mul-sub k a b, mul_comm k a, mul_comm k b) refl

module _ (A B c X Y L : ℕ) (C : 0 < c) (l : 0 < L) (x : A * L ≡ X * c) (y : B * L ≡ Y * c) where
  pub less : ltb A B ≡ ltb X Y
  less = go (ltb A B) refl
    where
      go : (t : Bool) → ltb A B ≡ t → t ≡ ltb X Y
      go true e =
          sym (lt-ltb X Y (lt_of_mul-lt-mul_right c
          (subst (λ (z : ℕ). z < Y * c) x (subst (λ (z : ℕ). A * L < z) y (mul-lt-mul_of_pos_right (ltb-true A B e) l)))))
      go false e =
          sym (le-ltb X Y (le_of_mul-le-mul_right
          (subst (λ (z : ℕ). z ≤ X * c) y (subst (λ (z : ℕ). B * L ≤ z) x (mul-le-mul_right L (ltb-false A B e)))) C))

  pub sums : (A + B) * L ≡ (X + Y) * c
  sums = rw (add-mul A B L, add-mul X Y c, x, y) refl

  pub differences : (A - B) * L ≡ (X - Y) * c
  differences = rw (sub_mul A B L, sub_mul X Y c, x, y) refl
