-- Runs of bits: a run is a first run and a second, a run within one byte is a part of it, and what fits.
use mathlib.Core.Path.{◌≡◌, refl, sym, ap, ◌∙◌}
use mathlib.Core.Bool.{◌||◌}
use mathlib.Core.List.{List}
use Prim.Native.Nat.{ℕ, zero, suc, ◌+◌, ◌-◌, ◌*◌, ◌/◌, ◌%◌, ◌^◌, ◌<◌, ◌≤◌}
use native.Mathlib.Nat.{pow-succ', pow-suc, add-zero, add-suc, add_assoc, mul_assoc, mod-one, div-one, div-div-eq-div-mul}
use native.Mathlib.Decide.{dec_lt}
use native.Mathlib.Numerals.{add-one}
use native.Mathlib.Omega.{arith}
use borrow.Author.Tests.{lt-ltb, le-ltb}
use lib.Dec.{ltb}
use lib.ListN.{length, get_or}
use lib.Pow.{mod-pow-add, high, low}
use Rattle.rules.specs.Numbers.{any}
use Rattle.base_bits.specs.Bits.{bit, field, short, numbers_short}

module _ (bytes : List ℕ) where
  pub field_none : (at : ℕ) → field bytes at 0 ≡ 0
  unfolding field
  field_none at = refl

  pub field_below : (at k : ℕ) → field bytes at k < 2 ^ k
  unfolding field bit
  field_below at zero = omega arith
  field_below at (suc k) = let h = field_below at k in rw pow-succ' (omega arith)

  -- a run is a first run and a second
  pub field_add : (at a b : ℕ) → field bytes at (a + b) ≡ field bytes at a * 2 ^ b + field bytes (at + a) b
  unfolding field
  field_add at a zero = let e = ap (field bytes at) (add-zero a) in omega arith
  field_add at a (suc b) = rw (add-suc, field_add at a b, pow-suc, ← mul_assoc, ← add_assoc at a b) (omega arith)

  -- of which the first is the upper part and the second the lower
  pub field_first : (at a b : ℕ) → field bytes at (a + b) / 2 ^ b ≡ field bytes at a
  field_first at a b = rw (field_add at a b) (high (field bytes at a) b (field_below (at + a) b))

  pub field_second : (at a b : ℕ) → field bytes at (a + b) % 2 ^ b ≡ field bytes (at + a) b
  field_second at a b = rw (field_add at a b) (low (field bytes at a) b (field_below (at + a) b))

pub halves : (x t : ℕ) → x / 2 % 2 ^ t * 2 + x % 2 ≡ x % 2 ^ suc t
halves x t = sym (rw (add-one t) at (mod-pow-add x t 1))

-- a run within one byte, from its bit f on
pub field_byte : (bytes : List ℕ) (q f k : ℕ) → f + k ≤ 8 → field bytes (8 * q + f) k ≡ get_or bytes q 0 / 2 ^ (8 - f - k) % 2 ^ k
unfolding field bit
field_byte bytes q f zero h = sym (mod-one (get_or bytes q 0 / 2 ^ (8 - f - 0)))
field_byte bytes q f (suc k) h =
    let p : (8 * q + f + k) / 8 ≡ q = omega arith in
    let m : 7 - (8 * q + f + k) % 8 ≡ 8 - f - suc k = omega arith in
    let e : 8 - f - k ≡ suc (8 - f - suc k) = omega arith in
    rw (field_byte bytes q f k (omega arith), p, m, e, pow-suc 2 (8 - f - suc k), ← div-div-eq-div-mul)
    (halves (get_or bytes q 0 / 2 ^ (8 - f - suc k)) k)

-- from its first bit on
pub field_start : (bytes : List ℕ) (q k : ℕ) → k ≤ 8 → field bytes (8 * q) k ≡ get_or bytes q 0 / 2 ^ (8 - k) % 2 ^ k
field_start bytes q k h = rw add-zero at (field_byte bytes q 0 k (omega arith))

-- and all of it
pub field_whole : (bytes : List ℕ) (q : ℕ) → field bytes (8 * q) 8 ≡ get_or bytes q 0 % 256
field_whole bytes q = field_start bytes q 8 (omega arith) ∙ rw (div-one (get_or bytes q 0))

-- a run that a byte ends and the next one goes on with
pub field_two_bytes : (bytes : List ℕ) (q f a b : ℕ) → f + a ≡ 8 → b ≤ 8
    → get_or bytes q 0 / 2 ^ (8 - f - a) % 2 ^ a * 2 ^ b + get_or bytes (q + 1) 0 / 2 ^ (8 - 0 - b) % 2 ^ b ≡ field bytes (8 * q + f) (a + b)
field_two_bytes bytes q f a b e h =
    let p : 8 * (q + 1) + 0 ≡ 8 * q + f + a = omega arith in
    rw (← field_byte bytes q f a (omega arith), ← field_byte bytes (q + 1) 0 b (omega arith), p) (sym (field_add bytes (8 * q + f) a b))

-- ---- what fits

-- whether bits are left, told by whole bytes
pub by_bytes : (n k : ℕ) → ltb n ((k + 7) / 8) ≡ ltb (8 * n) k
by_bytes n k =
    elim (dec_lt (8 * n) k) [
      | yes l ↦ lt-ltb n ((k + 7) / 8) (omega arith) ∙ sym (lt-ltb (8 * n) k l)
      | no f ↦ le-ltb n ((k + 7) / 8) (omega (arith, f)) ∙ sym (le-ltb (8 * n) k (omega (arith, f)))
    ]

-- where the nearer of two places is past the end, so is the other
either : (n a b : ℕ) → a ≤ b → (ltb n a || ltb n b) ≡ ltb n b
either n a b h =
    elim (dec_lt n a) [
      | yes l ↦ rw (lt-ltb n a l, lt-ltb n b (omega arith))
      | no f ↦ rw (le-ltb n a (omega (arith, f)))
    ]

several_short : (bytes : List ℕ) (at n : ℕ) → numbers_short bytes at (suc n) ≡ short bytes at (64 * suc n)
unfolding any
several_short bytes at zero = let e : at + 64 * 0 + 64 ≡ at + 64 * 1 = omega arith in ap (ltb (8 * length bytes)) e
several_short bytes at (suc n) =
    let e : at + 64 * suc n + 64 ≡ at + 64 * suc (suc n) = omega arith in
    rw (several_short bytes at n, e) (either (8 * length bytes) (at + 64 * suc n) (at + 64 * suc (suc n)) (omega arith))

-- one of the patterns is short where all together are
pub short_together : (bytes : List ℕ) (at n : ℕ) → 0 < n → short bytes at (64 * n) ≡ numbers_short bytes at n
short_together bytes at zero h = absurd (omega arith)
short_together bytes at (suc n) h = sym (several_short bytes at n)
