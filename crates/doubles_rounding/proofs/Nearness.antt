-- A fraction and the odd whole number near to it round alike where the unit that is rounded to is a multiple of four: ties are even
-- numbers.
use mathlib.Core.Path.{◌≡◌, refl, sym, ap, ◌∙◌, subst}
use mathlib.Core.Logic.{◌⊎◌, inl, inr}
use Prim.Native.Nat.compare
use Prim.Native.Nat.{
  ℕ,
  zero,
  suc,
  ◌+◌,
  ◌-◌,
  ◌*◌,
  ◌/◌,
  ◌%◌,
  ◌≤◌,
  ◌<◌,
  compare,
  Ordering,
}
use native.Mathlib.Nat.{le_of_suc-le-suc, lt_irrefl, mul_assoc, mul_left_comm, add-mul, suc-mul, mul-le-mul_right, div-add-mod', mod-lt}
use native.Mathlib.Omega.{arith}
use lib.Arith.{digits_div, digits_mod}
use lib.Ieee.{nearest}
use lib.Ieee.Nearest.{closest}
use Rattle.doubles_rounding.specs.Standing.{Near}
use Rattle.doubles_patterns.proofs.Sizes.{le_or_lt}

-- ---- what `compare` says
pub compare_lt : (a b : ℕ) → a < b → compare a b ≡ Ordering.lt
compare_lt zero zero h = absurd (lt_irrefl 0 h)
compare_lt zero (suc b) h = compare.zero-suc b
compare_lt (suc a) zero h = absurd (none a h)
  where
    none : (a : ℕ) → suc a < 0 → ⊥
    none a h = omega arith
compare_lt (suc a) (suc b) h = compare.suc-suc a b ∙ compare_lt a b (le_of_suc-le-suc h)

pub compare_eq : (a b : ℕ) → a ≡ b → compare a b ≡ Ordering.eq
compare_eq a b e = ap (compare a) (sym e) ∙ same a
  where
    same : (a : ℕ) → compare a a ≡ Ordering.eq
    same zero = compare.zero-zero
    same (suc a) = compare.suc-suc a a ∙ same a

pub compare_gt : (a b : ℕ) → b < a → compare a b ≡ Ordering.gt
compare_gt zero b h = absurd (none b h)
  where
    none : (b : ℕ) → b < 0 → ⊥
    none b h = omega arith
compare_gt (suc a) zero h = compare.suc-zero a
compare_gt (suc a) (suc b) h = compare.suc-suc a b ∙ compare_gt a b (le_of_suc-le-suc h)

-- ---- `closest` by what the remainder is
pub closest_at : (a b q r : ℕ) (o : Ordering) → a / b ≡ q → a % b ≡ r → compare (r * 2) b ≡ o → closest a b ≡ nearest q o
closest_at a b q r o d m c =
    ap (λ (x : ℕ). nearest x (compare (a % b * 2) b)) d ∙ ap (λ (x : ℕ). nearest q (compare (x * 2) b)) m ∙ ap (nearest q) c

-- ---- the fraction u / v lies less than 1 from the odd number 4 * w * Q + R
scaled : (a b v : ℕ) → a ≤ b → a * v ≤ b * v
scaled a b v h = mul-le-mul_right v h

module _ (Q R w v u : ℕ) (odd : R % 2 ≡ 1) (less : R < 4 * w) (some : 0 < v) (above : 4 * (Q * (w * v)) + R * v < u + v)
    (below : u < 4 * (Q * (w * v)) + R * v + v) where
  base_le : 4 * (Q * (w * v)) ≤ u
  base_le =
      let a : 1 * v ≤ R * v = scaled 1 R v (omega arith) in
      omega arith

  room : R * v + v ≤ 4 * (w * v)
  room =
      let a : suc R * v ≤ 4 * w * v = scaled (suc R) (4 * w) v less in
      let b : suc R * v ≡ R * v + v = suc-mul R v in
      let c : 4 * w * v ≡ 4 * (w * v) = mul_assoc 4 w v in
      omega arith

  rest_less : u - 4 * (Q * (w * v)) < 4 * (w * v)
  rest_less = let a = room in let b = base_le in omega arith

  whole : Q * (4 * (w * v)) + (u - 4 * (Q * (w * v))) ≡ u
  whole = let a : Q * (4 * (w * v)) ≡ 4 * (Q * (w * v)) = mul_left_comm Q 4 (w * v) in let b = base_le in omega arith

  quotient : u / (4 * (w * v)) ≡ Q
  quotient = ap (λ (x : ℕ). x / (4 * (w * v))) (sym whole) ∙ digits_div Q rest_less

  remainder : u % (4 * (w * v)) ≡ u - 4 * (Q * (w * v))
  remainder = ap (λ (x : ℕ). x % (4 * (w * v))) (sym whole) ∙ digits_mod Q rest_less

  lower : R < 2 * w → (u - 4 * (Q * (w * v))) * 2 < 4 * (w * v)
  lower h =
      let a : suc R * v ≤ 2 * w * v = scaled (suc R) (2 * w) v h in
      let b : suc R * v ≡ R * v + v = suc-mul R v in
      let c : 2 * w * v ≡ 2 * (w * v) = mul_assoc 2 w v in
      let d = base_le in
      omega arith

  upper : 2 * w < R → 4 * (w * v) < (u - 4 * (Q * (w * v))) * 2
  upper h =
      let a : suc (2 * w) * v ≤ R * v = scaled (suc (2 * w)) R v h in
      let b : suc (2 * w) * v ≡ 2 * w * v + v = suc-mul (2 * w) v in
      let c : 2 * w * v ≡ 2 * (w * v) = mul_assoc 2 w v in
      let d = base_le in
      omega arith

  either : (2 * w ≤ R) ⊎ (R < 2 * w) → (o : Ordering) × (compare (R * 2) (4 * w) ≡ o) × (closest u (4 * (w * v)) ≡ nearest Q o)
  either (inr h) = (
    Ordering.lt,
    compare_lt (R * 2) (4 * w) (omega arith),
    closest_at u (4 * (w * v)) Q
        (u - 4 * (Q * (w * v))) Ordering.lt quotient remainder (compare_lt ((u - 4 * (Q * (w * v))) * 2) (4 * (w * v)) (lower h)),
  )
  either (inl g) =
      let h : 2 * w < R = omega arith in (
        Ordering.gt,
        compare_gt (R * 2) (4 * w) (omega arith),
        closest_at u (4 * (w * v)) Q
            (u - 4 * (Q * (w * v))) Ordering.gt quotient remainder (compare_gt ((u - 4 * (Q * (w * v))) * 2) (4 * (w * v)) (upper h)),
      )

odd_rest : (n z r : ℕ) → n ≡ 4 * z + r → n % 2 ≡ 1 → r % 2 ≡ 1
odd_rest n z r s o = omega arith

four : (w : ℕ) → 0 < w → 0 < 4 * w
four w W = omega arith

module _ (n u v w : ℕ) (near : Near n u v) (some : 0 < v) (W : 0 < w) where
  near_split : n ≡ 4 * (n / (4 * w) * w) + n % (4 * w)
  near_split = sym (div-add-mod' n (4 * w)) ∙ ap (λ (x : ℕ). x + n % (4 * w)) (mul_left_comm (n / (4 * w)) 4 w)

  near_times : n * v ≡ 4 * (n / (4 * w) * (w * v)) + n % (4 * w) * v
  near_times =
      ap (λ (x : ℕ). x * v) near_split ∙ add-mul (4 * (n / (4 * w) * w)) (n % (4 * w)) v
      ∙ ap (λ (x : ℕ). x + n % (4 * w) * v) (mul_assoc 4 (n / (4 * w) * w) v ∙ ap (λ (x : ℕ). 4 * x) (mul_assoc (n / (4 * w)) w v))

  near_odd : n % (4 * w) % 2 ≡ 1
  near_odd = odd_rest n (n / (4 * w) * w) (n % (4 * w)) near_split near.odd

  near_above : 4 * (n / (4 * w) * (w * v)) + n % (4 * w) * v < u + v
  near_above = subst (λ (x : ℕ). x < u + v) near_times near.above

  near_below : u < 4 * (n / (4 * w) * (w * v)) + n % (4 * w) * v + v
  near_below = subst (λ (x : ℕ). u < x + v) near_times near.below

  pub near_quotient : u / (4 * (w * v)) ≡ n / (4 * w)
  near_quotient = quotient (n / (4 * w)) (n % (4 * w)) w v u near_odd (mod-lt n (four w W)) some near_above near_below

  pub near_closest : closest n (4 * w) ≡ closest u (4 * (w * v))
  near_closest =
      let out =
      either (n / (4 * w)) (n % (4 * w)) w v u near_odd (mod-lt n (four w W)) some near_above near_below (le_or_lt (2 * w) (n % (4 * w))) in
      closest_at n (4 * w) (n / (4 * w)) (n % (4 * w)) out.0 refl refl out.1 ∙ sym out.2
