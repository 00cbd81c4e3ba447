-- A byte with a run of its bits replaced: what stands in the run, what stands beside it, and that runs side by side are one.
use mathlib.Core.Path.{◌≡◌, refl, sym, ap, ◌∙◌}
use mathlib.Core.Logic.{⊎_elim, ◌⊎◌, inl, inr}
use Prim.Native.Nat.{ℕ, suc, ◌+◌, ◌-◌, ◌*◌, ◌/◌, ◌%◌, ◌^◌, ◌<◌, ◌≤◌}
use native.Mathlib.Nat.{
  pow-suc,
  add-zero,
  add_comm,
  mul_assoc,
  mul-one,
  mod-one,
  mod-lt,
  eq-or-lt_of_le,
  le_of_suc-le-suc,
  lt_of_not-le,
  mod-eq_of_lt,
  le-mul_of_pos_right,
}
use native.Mathlib.Numerals.{add-one}
use native.Mathlib.Omega.{arith}
use native.Mathlib.Decide.{dec_lt}
use lib.Arith.{digits_lt}
use lib.Pow.{pow-add, pow_pos, high, low, split, shr-shr, shr_lt, mod-mod-pow, field}
use Rattle.base_bits.specs.Written.{patch}

-- the bits below the run stay, and those from it on are the rest and the run
patch_low : (x m t w : ℕ) → patch x m t w % 2 ^ m ≡ x % 2 ^ m
unfolding patch
patch_low x m t w = low (x / 2 ^ (m + t) * 2 ^ t + w) m (mod-lt x (pow_pos m))

patch_high : (x m t w : ℕ) → patch x m t w / 2 ^ m ≡ x / 2 ^ (m + t) * 2 ^ t + w
unfolding patch
patch_high x m t w = high (x / 2 ^ (m + t) * 2 ^ t + w) m (mod-lt x (pow_pos m))

pub patch_is : (x m t w : ℕ) → patch x m t w ≡ (x / 2 ^ (m + t) * 2 ^ t + w) * 2 ^ m + x % 2 ^ m
unfolding patch
patch_is x m t w = refl

-- a byte stays a byte
pub patch_below : (x m t w : ℕ) → x < 256 → m + t ≤ 8 → w < 2 ^ t → patch x m t w < 256
unfolding patch
patch_below x m t w hx h hw =
    let e : (8 - (m + t)) + (m + t) ≡ 8 = omega arith in
    let f : (8 - (m + t)) + t + m ≡ 8 = omega arith in
    let a : x / 2 ^ (m + t) < 2 ^ (8 - (m + t)) = shr_lt (8 - (m + t)) (m + t) (rw e hx) in
    let b : x / 2 ^ (m + t) * 2 ^ t + w < 2 ^ ((8 - (m + t)) + t) = rw (pow-add 2 (8 - (m + t)) t) (digits_lt a hw) in
    let c : patch x m t w < 2 ^ ((8 - (m + t)) + t) * 2 ^ m = digits_lt b (mod-lt x (pow_pos m)) in
    rw (← pow-add 2 ((8 - (m + t)) + t) m, f) at c

-- no bits replaced
pub patch_none : (x m w : ℕ) → patch x m 0 (w % 2 ^ 0) ≡ x
unfolding patch
patch_none x m w = rw (add-zero, mod-one w, mul-one (x / 2 ^ m), add-zero) (split x m)

-- a bit replaced by itself
pub patch_own : (x m : ℕ) → patch x m 1 (x / 2 ^ m % 2) ≡ x
unfolding patch
patch_own x m =
    let e : x / 2 ^ (m + 1) ≡ x / 2 ^ m / 2 = sym (shr-shr x m 1) in
    rw e (let f : x / 2 ^ m / 2 * 2 + x / 2 ^ m % 2 ≡ x / 2 ^ m = omega arith in rw f (split x m))

-- one bit more, below the run
patch_rest : (x m t w : ℕ) → patch x (m + 1) t w % 2 ^ m ≡ x % 2 ^ m
patch_rest x m t w =
    sym (mod-mod-pow (patch x (m + 1) t w) 1 m) ∙ ap (λ (n : ℕ). patch x (m + 1) t w % 2 ^ n % 2 ^ m) (add_comm 1 m)
    ∙ ap (λ (n : ℕ). n % 2 ^ m) (patch_low x (m + 1) t w) ∙ ap (λ (n : ℕ). x % 2 ^ n % 2 ^ m) (add_comm m 1) ∙ mod-mod-pow x 1 m

pub patch_more : (x m t w b : ℕ) → patch (patch x (m + 1) t w) m 1 b ≡ patch x m (suc t) (w * 2 + b)
patch_more x m t w b =
    let e : m + 1 + t ≡ m + suc t = omega arith in
    let f : (x / 2 ^ (m + suc t) * 2 ^ t + w) * 2 + b ≡ x / 2 ^ (m + suc t) * 2 ^ suc t + (w * 2 + b) =
    rw (pow-suc 2 t, ← mul_assoc (x / 2 ^ (m + suc t)) (2 ^ t) 2) (omega arith) in
    patch_is (patch x (m + 1) t w) m 1 b ∙ rw (patch_high x (m + 1) t w, patch_rest x m t w, e, f) (sym (patch_is x m (suc t) (w * 2 + b)))

-- ---- one bit

pub bit_here : (x m b : ℕ) → b < 2 → patch x m 1 b / 2 ^ m % 2 ≡ b
bit_here x m b h = rw (patch_high x m 1 b) (omega arith)

-- a bit depends on the bits up to it
bit_low : (x m d : ℕ) → x % 2 ^ (suc d + m) / 2 ^ m % 2 ≡ x / 2 ^ m % 2
bit_low x m d = rw (field x (suc d) m, ← add-one d) (mod-mod-pow (x / 2 ^ m) d 1)

bit_below : (x m d b : ℕ) → patch x (suc d + m) 1 b / 2 ^ m % 2 ≡ x / 2 ^ m % 2
bit_below x m d b =
    sym (bit_low (patch x (suc d + m) 1 b) m d) ∙ ap (λ (n : ℕ). n / 2 ^ m % 2) (patch_low x (suc d + m) 1 b) ∙ bit_low x m d

bit_above : (x m d b : ℕ) → b < 2 → patch x m 1 b / 2 ^ (m + suc d) % 2 ≡ x / 2 ^ (m + suc d) % 2
bit_above x m d b h =
    let e : m + suc d ≡ m + 1 + d = omega arith in
    let f : (x / 2 ^ (m + 1) * 2 + b) / 2 ≡ x / 2 ^ (m + 1) = omega arith in
    rw (e, ← shr-shr x (m + 1) d, ← shr-shr (patch x m 1 b) (m + 1) d, ← shr-shr (patch x m 1 b) m 1, patch_high x m 1 b, f)

apart : (n m : ℕ) → (n ≡ m → ⊥) → (n < m) ⊎ (m < n)
apart n m ne =
    elim (dec_lt n m) [
      | yes l ↦ inl l
      | no f ↦ ⊎_elim (λ e. absurd (ne (sym e))) (λ l. inr l) (eq-or-lt_of_le (le_of_suc-le-suc (lt_of_not-le f)))
    ]

pub bit_other : (x m n b : ℕ) → b < 2 → (n ≡ m → ⊥) → patch x m 1 b / 2 ^ n % 2 ≡ x / 2 ^ n % 2
bit_other x m n b h ne =
    ⊎_elim
    (λ (l : n < m). let e : m ≡ suc (m - suc n) + n = omega arith in rw e (bit_below x n (m - suc n) b))
    (λ (l : m < n). let e : n ≡ m + suc (n - suc m) = omega arith in rw e (bit_above x m (n - suc m) b h))
    (apart n m ne)

-- ---- by shifts: none of them loses a bit

pub record Small (h t w m : ℕ) : Type 0 where
  pub first : h * 2 ^ t % 18446744073709551616 ≡ h * 2 ^ t
  pub second : (h * 2 ^ t + w) * 2 ^ m % 18446744073709551616 ≡ (h * 2 ^ t + w) * 2 ^ m
  pub room : h * 2 ^ t + w < 256

pub small : (x m t w : ℕ) → x < 256 → m + t ≤ 8 → w < 2 ^ t → Small (x / 2 ^ (m + t)) t w m
small x m t w hx h hw =
    let b : (x / 2 ^ (m + t) * 2 ^ t + w) * 2 ^ m + x % 2 ^ m < 256 = rw (patch_is x m t w) at (patch_below x m t w hx h hw) in
    let c : x / 2 ^ (m + t) * 2 ^ t + w ≤ (x / 2 ^ (m + t) * 2 ^ t + w) * 2 ^ m =
    le-mul_of_pos_right (x / 2 ^ (m + t) * 2 ^ t + w) (pow_pos m) in
    record { first = mod-eq_of_lt (omega arith); second = mod-eq_of_lt (omega arith); room = omega arith }
