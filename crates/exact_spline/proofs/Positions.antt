-- Where the numbers of a cell stand: a position is a corner and a mask, bit by bit.
use mathlib.Core.Path.{◌≡◌, refl, sym, ◌∙◌, ap, ap₂}
use mathlib.Core.Bool.{Bool, true, false, cond}
use Prim.Native.Nat.{ℕ, zero, suc, ◌+◌, ◌-◌, ◌*◌, ◌/◌, ◌%◌, ◌^◌, ◌<◌, ◌≤◌}
use native.Mathlib.Nat.{pow-suc, mul-add-div, mul-add-mod_self_left, div-eq_of_lt}
use native.Mathlib.Omega.{arith}
use lib.Dec.{eqb}
use borrow.Author.Tests.{eq-eqb, ne_eqb}
use lib.Arith.{digits_div, digits_mod}
use lib.Pow.{pow_pos, pow-add, pow-lt}
use Rattle.rules.proofs.Cells.{four_power}

-- a bit of a corner
abbrev pub bit : Bool → ℕ
bit true = 1
bit false = 0

-- so many axes before the free one, and so many after it
abbrev pub total : ℕ → ℕ → ℕ
total zero rest = suc rest
total (suc d) rest = suc (total d rest)

pub total_is : (d rest : ℕ) → total d rest ≡ d + suc rest
total_is zero rest = omega arith
total_is (suc d) rest = omega (arith, total_is d rest)

-- the position of the corner with these bits, at mask 0
abbrev pub fixed : ℕ → ℕ → (ℕ → Bool) → ℕ
fixed zero lowest b = 0
fixed (suc axes) lowest b = 2 * 4 ^ axes * bit (b lowest) + 2 * fixed axes (suc lowest) b

-- the position of the corner with these bits, and c for the free axis, at the mask of that axis where m is 1
abbrev pub free : ℕ → ℕ → ℕ → (ℕ → Bool) → ℕ → ℕ → ℕ
free zero rest lowest b c m = 2 * 4 ^ rest * c + 2 * fixed rest (suc lowest) b + m
free (suc d) rest lowest b c m = 2 * 4 ^ total d rest * bit (b lowest) + 2 * free d rest (suc lowest) b c m

-- the bits of a corner as a number, those of the lowest axis highest
abbrev pub number : ℕ → ℕ → (ℕ → ℕ) → ℕ
number zero lowest b = 0
number (suc axes) lowest b = 2 ^ axes * b lowest + number axes (suc lowest) b

one_more : (p b k m : ℕ) → 2 * (p * p) * b + 2 * (k * p + m) ≡ (p * b + k) * (p * 2) + 2 * m
one_more p b k m = omega arith

fixed_is : (axes lowest : ℕ) (b : ℕ → Bool) → fixed axes lowest b ≡ number axes lowest (λ i. bit (b i)) * 2 ^ axes
fixed_is zero lowest b = refl
fixed_is (suc axes) lowest b =
    ap₂ (λ p q. 2 * p * bit (b lowest) + 2 * q) (four_power axes) (fixed_is axes (suc lowest) b)
    ∙ omega (arith, one_more (2 ^ axes) (bit (b lowest)) (number axes (suc lowest) (λ i. bit (b i))) 0)
    ∙ ap (λ p. (2 ^ axes * bit (b lowest) + number axes (suc lowest) (λ i. bit (b i))) * p) (sym (pow-suc 2 axes))

-- the bits with c for that of axis a
abbrev pub with_bit : (ℕ → Bool) → ℕ → ℕ → ℕ → ℕ
with_bit b a c i = cond (eqb i a) c (bit (b i))

pub with_bit_on : (b : ℕ → Bool) (a c i : ℕ) → i ≡ a → with_bit b a c i ≡ c
with_bit_on b a c i e = rw (eq-eqb i a e) refl

pub with_bit_off : (b : ℕ → Bool) (a c i : ℕ) → (i ≡ a → ⊥) → with_bit b a c i ≡ bit (b i)
with_bit_off b a c i e = rw (ne_eqb i a e) refl

number_ext : (axes lowest : ℕ) (b b' : ℕ → ℕ) → ((i : ℕ) → lowest ≤ i → b i ≡ b' i) → number axes lowest b ≡ number axes lowest b'
number_ext zero lowest b b' same = refl
number_ext (suc axes) lowest b b' same =
    ap₂ (λ p q. 2 ^ axes * p + q) (same lowest (omega arith)) (number_ext axes (suc lowest) b b' (λ i h. same i (omega arith)))

free_is : (d rest lowest a : ℕ) (b : ℕ → Bool) (c m : ℕ) → a ≡ lowest + d
    → free d rest lowest b c m ≡ number (total d rest) lowest (with_bit b a c) * 2 ^ total d rest + m * 2 ^ d
free_is zero rest lowest a b c m e =
    ap₂ (λ p q. 2 * p * c + 2 * q + m) (four_power rest) (fixed_is rest (suc lowest) b)
    ∙ omega (arith, one_more (2 ^ rest) c (number rest (suc lowest) (λ i. bit (b i))) 0)
    ∙ ap₂ (λ p q. (2 ^ rest * p + q) * (2 ^ rest * 2) + m * 1)
    (sym (with_bit_on b a c lowest (omega arith)))
    (number_ext rest (suc lowest) (λ i. bit (b i)) (with_bit b a c) (λ i h. sym (with_bit_off b a c i (λ f. omega arith))))
    ∙ ap (λ p. (2 ^ rest * with_bit b a c lowest + number rest (suc lowest) (with_bit b a c)) * p + m * 1) (sym (pow-suc 2 rest))
free_is (suc d) rest lowest a b c m e =
    ap₂ (λ p q. 2 * p * bit (b lowest) + 2 * q) (four_power (total d rest)) (free_is d rest (suc lowest) a b c m (omega arith))
    ∙ one_more (2 ^ total d rest) (bit (b lowest)) (number (total d rest) (suc lowest) (with_bit b a c)) (m * 2 ^ d)
    ∙ ap (λ p. (2 ^ total d rest * p + number (total d rest) (suc lowest) (with_bit b a c)) * (2 ^ total d rest * 2) + 2 * (m * 2 ^ d))
    (sym (with_bit_off b a c lowest (λ f. omega arith)))
    ∙ ap₂ (λ p q. (2 ^ total d rest * with_bit b a c lowest + number (total d rest) (suc lowest) (with_bit b a c)) * p + q)
    (sym (pow-suc 2 (total d rest)))
    (times_out m (2 ^ d) ∙ ap (λ p. m * p) (sym (pow-suc 2 d)))
  where
    times_out : (m p : ℕ) → 2 * (m * p) ≡ m * (p * 2)
    times_out m p = omega arith

number_below : (axes lowest : ℕ) (b : ℕ → ℕ) → ((i : ℕ) → b i ≤ 1) → number axes lowest b < 2 ^ axes
number_below zero lowest b few = omega arith
number_below (suc axes) lowest b few =
    go (b lowest) (few lowest) (number_below axes (suc lowest) b few)
  where
    go : (k : ℕ) → k ≤ 1 → number axes (suc lowest) b < 2 ^ axes → 2 ^ axes * k + number axes (suc lowest) b < 2 ^ suc axes
    go zero h i = omega (arith, pow-suc 2 axes)
    go (suc zero) h i = omega (arith, pow-suc 2 axes)
    go (suc (suc k)) h i = let z : ⊥ = omega arith in absurd z

-- the bit of axis i, read off the number
pub bit_of : (axes lowest i : ℕ) (b : ℕ → ℕ) → ((i : ℕ) → b i ≤ 1) → i < axes
    → number axes lowest b / 2 ^ (axes - 1 - i) % 2 ≡ b (lowest + i)
bit_of zero lowest i b few h = let z : ⊥ = omega arith in absurd z
bit_of (suc axes) lowest zero b few h =
    let e : suc axes - 1 - 0 ≡ axes = omega arith in
    let f : lowest ≡ lowest + 0 = omega arith in
    ap (λ k. (2 ^ axes * b lowest + number axes (suc lowest) b) / 2 ^ k % 2) e
    ∙ ap (λ k. k % 2) (mul-add-div (pow_pos axes) (b lowest) (number axes (suc lowest) b))
    ∙ ap (λ k. (b lowest + k) % 2) (div-eq_of_lt (number_below axes (suc lowest) b few))
    ∙ omega (arith, few lowest)
    ∙ ap b f
bit_of (suc axes) lowest (suc i) b few h =
    let e : suc axes - 1 - suc i ≡ axes - 1 - i = omega arith in
    let g : axes ≡ (axes - 1 - i) + suc i = omega arith in
    let f : suc lowest + i ≡ lowest + suc i = omega arith in
    ap (λ k. (2 ^ axes * b lowest + number axes (suc lowest) b) / 2 ^ k % 2) e
    ∙ ap (λ k. (k + number axes (suc lowest) b) / 2 ^ (axes - 1 - i) % 2)
    (ap (λ k. 2 ^ k * b lowest) g ∙ ap (λ k. k * b lowest)
    (pow-add 2 (axes - 1 - i) (suc i) ∙ ap (λ k. 2 ^ (axes - 1 - i) * k) (pow-suc 2 i)) ∙ regroup (2 ^ (axes - 1 - i)) (2 ^ i) (b lowest))
    ∙ ap (λ k. k % 2) (mul-add-div (pow_pos (axes - 1 - i)) (2 * (2 ^ i * b lowest)) (number axes (suc lowest) b))
    ∙ mul-add-mod_self_left 2 (2 ^ i * b lowest) (number axes (suc lowest) b / 2 ^ (axes - 1 - i))
    ∙ bit_of axes (suc lowest) i b few (omega arith)
    ∙ ap b f
  where
    regroup : (p q k : ℕ) → p * (q * 2) * k ≡ p * (2 * (q * k))
    regroup p q k = omega arith

-- the corner and the mask of a position
module _ (d rest a : ℕ) (b : ℕ → Bool) (c : ℕ) (e : a ≡ 0 + d) where
  mask_below : (m : ℕ) → m ≤ 1 → m * 2 ^ d < 2 ^ total d rest
  mask_below zero h = omega (arith, pow_pos (total d rest))
  mask_below (suc zero) h = omega (arith, pow-lt {i = d} {j = total d rest} (omega (arith, total_is d rest)))
  mask_below (suc (suc m)) h = let z : ⊥ = omega arith in absurd z

  pub corner_at : (m : ℕ) → m ≤ 1 → free d rest 0 b c m / 2 ^ total d rest ≡ number (total d rest) 0 (with_bit b a c)
  corner_at m h = ap (λ k. k / 2 ^ total d rest) (free_is d rest 0 a b c m e) ∙ digits_div _ (mask_below m h)

  pub mask_at : (m : ℕ) → m ≤ 1 → free d rest 0 b c m % 2 ^ total d rest ≡ m * 2 ^ d
  mask_at m h = ap (λ k. k % 2 ^ total d rest) (free_is d rest 0 a b c m e) ∙ digits_mod _ (mask_below m h)
