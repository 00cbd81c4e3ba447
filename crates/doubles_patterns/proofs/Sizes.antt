-- How many digits a number has, and what rounding keeps of a fraction: equal fractions alike, and never more digits than there is room for.
use mathlib.Core.Path.{◌≡◌, sym, ap, ◌∙◌, subst}
use mathlib.Core.Logic.{◌⊎◌, inl, inr}
use Prim.Native.Nat.{ℕ, suc, ◌+◌, ◌-◌, ◌*◌, ◌/◌, ◌%◌, ◌^◌, ◌≤◌, ◌<◌, compare}
use native.Mathlib.Nat.{
  le_trans,
  le_of_eq,
  le_antisymm,
  lt_of_lt_of_le,
  lt_of_not-le,
  lt_irrefl,
  mul_assoc,
  mul-pos,
  le-div_iff_mul-le,
  div-lt_iff_lt-mul,
  div-div-eq-div-mul,
}
use native.Mathlib.Decide.{dec_le}
use native.Mathlib.Omega.{arith}
use lib.Pow.{pow-add, pow_pos, pow_mono}
use lib.Ieee.{size}
use lib.Ieee.Digits.{size-lt, size-le, size_reaches}
use lib.Ieee.Fits.{kept-lt, nearest-le}
use lib.Ieee.Nearest.{closest, closest_same, div_same, nearest-ge}
use lib.Ieee.Order.{drop, kept}

pub le_or_lt : (a b : ℕ) → (a ≤ b) ⊎ (b < a)
le_or_lt a b = elim (dec_le a b) [ yes h ↦ inl h | no f ↦ inr (lt_of_not-le f) ]

-- ---- a number that reaches 2 ^ j has more than j digits; a fraction n / c between two powers of two has so many
pub more_digits : (j n : ℕ) → 2 ^ j ≤ n → j < size n
more_digits j n reached = go (le_or_lt (size n) j)
  where
    go : (size n ≤ j) ⊎ (j < size n) → j < size n
    go (inr more) = more
    go (inl few) = absurd (lt_irrefl n (lt_of_lt_of_le (size-lt n) (le_trans (pow_mono few) reached)))

pub digits_between : (b n c : ℕ) → 0 < c → 2 ^ b * c ≤ n → n < 2 ^ suc b * c → size (n / c) ≡ suc b
digits_between b n c some l h =
    le_antisymm (size-le (n / c) (suc b) ((div-lt_iff_lt-mul some).1 h)) (more_digits b (n / c) ((le-div_iff_mul-le some).1 l))

-- ---- equal fractions
pub drop_same : (p a b c d : ℕ) → 0 < b → 0 < d → a * d ≡ c * b → drop p a b ≡ drop p c d
drop_same p a b c d B D e = ap (λ (z : ℕ). size z - p) (div_same a b c d B D e)

pub kept_same : (p a b c d : ℕ) → 0 < b → 0 < d → a * d ≡ c * b → kept p a b ≡ kept p c d
kept_same p a b c d B D e =
    let j = drop p c d in
    ap (λ (z : ℕ). closest a (b * 2 ^ z)) (drop_same p a b c d B D e)
    ∙ closest_same a (b * 2 ^ j) c (d * 2 ^ j) (mul-pos B (pow_pos j)) (mul-pos D (pow_pos j))
    (sym (mul_assoc a d (2 ^ j)) ∙ ap (λ (z : ℕ). z * 2 ^ j) e ∙ mul_assoc c b (2 ^ j))

-- ---- what is kept has p digits at most, or is 2 ^ p; and where digits are dropped, p digits at least
pub kept_most : (p n den : ℕ) → kept p n den ≤ 2 ^ p
kept_most p n den =
    let k = drop p n den in
    let u = den * 2 ^ k in
    le_trans (nearest-le (n / u) (compare (n % u * 2) u))
    (subst (λ (x : ℕ). x < 2 ^ p) (div-div-eq-div-mul n den (2 ^ k)) (kept-lt p (n / den)))

all_in_use : (z p : ℕ) → 0 < p → 0 < z - p → p - 1 + (z - p) < z
all_in_use z p P h = omega arith

pub kept_least : (p n den : ℕ) → 0 < p → 0 < drop p n den → 2 ^ (p - 1) ≤ kept p n den
kept_least p n den P K =
    let k = drop p n den in
    let u = den * 2 ^ k in
    let w = n / den in
    let a : 2 ^ (p - 1) * 2 ^ k ≤ w =
    le_trans (le_of_eq (sym (pow-add 2 (p - 1) k))) (size_reaches w (p - 1 + k) (all_in_use (size w) p P K)) in
    le_trans (subst (λ (x : ℕ). 2 ^ (p - 1) ≤ x) (div-div-eq-div-mul n den (2 ^ k)) ((le-div_iff_mul-le (pow_pos k)).1 a))
    (nearest-ge (n / u) (compare (n % u * 2) u))
