-- The quotient of two magnitudes: what stands for the digits' quotient, in its place, has the pattern of the units' quotient.
use mathlib.Core.Path.{◌≡◌, refl, sym, ap, ◌∙◌}
use mathlib.Core.Logic.{◌⊎◌, inl, inr}
use Prim.Native.Nat.{ℕ, ◌+◌, ◌*◌, ◌^◌, ◌≤◌, ◌<◌}
use native.Mathlib.Nat.{
  le_trans,
  le_of_eq,
  mul_comm,
  mul_assoc,
  mul_left_comm,
  mul-pos,
  mul-le-mul_right,
  mul-le-mul_left,
  lt_of_mul-lt-mul_right,
}
use native.Mathlib.Omega.{arith}
use lib.Dec.{lit<}
use lib.Pow.{pow-add, pow_pos}
use lib.Ieee.{binary64, low}
use Rattle.doubles_patterns.specs.Patterns.{leading, pattern, units_of, quotient_of_units}
use Rattle.doubles_patterns.specs.Finite.{Raised}
use Rattle.doubles_patterns.proofs.Packing.{pattern_same}
use Rattle.doubles_rounding.specs.Standing.{Near, StandsFor}
use Rattle.doubles_rounding.proofs.Placing.{standing_placed, standing_least}

-- what stands for u / n is less than one more
standing_most : (r u n : ℕ) → 0 < n → StandsFor r u n → r * n < u + n
standing_most r u n some standing = go standing.stands
  where
    go : (r * n ≡ u) ⊎ Near r u n → r * n < u + n
    go (inl e) = omega arith
    go (inr near) = near.above

scaled : (r X Y : ℕ) → r * 256 * X * (4 * 1 * Y) ≡ r * X * (1024 * Y)
scaled r X Y = simp (mul_assoc, mul_comm, mul_left_comm) (omega arith)

left_side : (m E Y a b : ℕ) → m * a * (E * b) * Y ≡ m * E * Y * (a * b)
left_side m E Y a b = simp (mul_assoc, mul_comm, mul_left_comm)

right_side : (n F X K c : ℕ) → X * K * (n * (c * F)) ≡ n * F * (X * (K * c))
right_side n F X K c = simp (mul_assoc, mul_comm, mul_left_comm)

turned : (X Y l z : ℕ) → X * l * Y * z ≡ Y * l * (X * z)
turned X Y l z = simp (mul_assoc, mul_comm, mul_left_comm)

module _ (p o m n e f r : ℕ) (a : Raised p m e) (b : Raised o n f) (standing : StandsFor r (m * 36028797018963968) n) where
  some_digits : 0 < n
  some_digits = let l = b.long in omega arith

  pub quotient_large : leading * 4 ≤ r
  quotient_large =
      let la = a.long in
      let sb = b.short in
      standing_least (leading * 4) r (m * 36028797018963968) n some_digits standing
      (le_trans (mul-le-mul_left (leading * 4) (at_most n sb)) (le_trans (le_of_eq refl) (mul-le-mul_right 36028797018963968 la)))
    where
      at_most : (n : ℕ) → n < 2 * leading → n ≤ 2 * leading
      at_most n h = omega arith

  pub quotient_small : r < 72057594037927936
  quotient_small =
      let x : r * leading ≤ r * n = mul-le-mul_left r b.long in
      let y = standing_most r (m * 36028797018963968) n some_digits standing in
      let s = a.short in
      let t = b.short in
      lt_of_mul-lt-mul_right leading (omega arith)

  -- in units: 2 ^ 55 for the places of the quotient, 2 ^ 1021 for the rest of the scale
  crossed : m * 36028797018963968 * 2 ^ (e + 1021) * units_of o ≡ units_of p * 2 ^ low binary64 * (n * (4 * 1 * 2 ^ f))
  crossed =
      ap (λ (x : ℕ). m * 36028797018963968 * x * units_of o) (pow-add 2 e 1021)
      ∙ left_side m (2 ^ e) (units_of o) 36028797018963968 (2 ^ 1021)
      ∙ ap (λ (x : ℕ). x * units_of o * (36028797018963968 * 2 ^ 1021)) a.units
      ∙ turned (units_of p) (units_of o) leading (36028797018963968 * 2 ^ 1021)
      ∙ ap (λ (x : ℕ). x * (units_of p * (2 ^ 1074 * 4))) (sym b.units)
      ∙ sym (right_side n (2 ^ f) (units_of p) (2 ^ 1074) 4)

  pub quotient_is : 0 < units_of o
      → pattern binary64 (r * 256 * 2 ^ (e + 1021)) (1024 * 2 ^ f) ≡ quotient_of_units (units_of p) (units_of o)
  unfolding quotient_of_units
  quotient_is some =
      let u = m * 36028797018963968 in
      let x = e + 1021 in
      let below : 0 < 4 * 1 * 2 ^ f = mul-pos (lit< tt) (pow_pos f) in
      pattern_same binary64 (r * 256 * 2 ^ x) (1024 * 2 ^ f) (r * 2 ^ x) (4 * 1 * 2 ^ f) (mul-pos (lit< tt) (pow_pos f)) below
      (scaled r (2 ^ x) (2 ^ f))
      ∙ standing_placed 1 r u n x f (lit< tt) some_digits quotient_large standing
      ∙ pattern_same binary64 (u * 2 ^ x) (n * (4 * 1 * 2 ^ f)) (units_of p * 2 ^ low binary64) (units_of o)
      (mul-pos some_digits below) some crossed
