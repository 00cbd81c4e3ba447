-- The product of two magnitudes: what stands for the upper word of the digits' product, in its place, has the pattern of the units'
-- product.
use mathlib.Core.Path.{◌≡◌, refl, ap, ◌∙◌}
use Prim.Native.Nat.{ℕ, ◌+◌, ◌*◌, ◌^◌, ◌≤◌}
use native.Mathlib.Nat.{le_trans, le_of_eq, mul_comm, mul_assoc, mul_left_comm, mul-le-mul_right, mul-le-mul_left}
use native.Mathlib.Omega.{arith}
use lib.Dec.{lit<}
use lib.Pow.{pow-add, pow_pos}
use lib.Ieee.{binary64, low}
use Rattle.doubles_patterns.specs.Patterns.{word, top_place, second_place, leading, pattern, units_of, product_of_units}
use Rattle.doubles_patterns.specs.Finite.{Raised}
use Rattle.doubles_patterns.proofs.Packing.{pattern_same}
use Rattle.doubles_rounding.specs.Standing.{StandsFor}
use Rattle.doubles_rounding.proofs.Placing.{standing_placed, standing_least}

apart : (m n E F s : ℕ) → m * s * (n * s) * (E * F) ≡ m * E * (n * F) * (s * s)
apart m n E F s = simp (mul_assoc, mul_comm, mul_left_comm)

gathered : (X Y l s K : ℕ) → X * l * (Y * l) * s * K ≡ X * Y * (l * l * s * K)
gathered X Y l s K = simp (mul_assoc, mul_left_comm)

both_large : (u v : ℕ) → top_place ≤ u → top_place ≤ v → second_place * word ≤ u * v
both_large u v h g = le_trans (le_of_eq refl) (le_trans (mul-le-mul_right top_place h) (mul-le-mul_left u g))

module _ (p o m n e f r : ℕ) (a : Raised p m e) (b : Raised o n f) (standing : StandsFor r (m * 2048 * (n * 2048)) word) where
  pub product_large : second_place ≤ r
  product_large =
      let la = a.long in
      let lb = b.long in
      standing_least second_place r (m * 2048 * (n * 2048)) word (lit< tt) standing
      (both_large (m * 2048) (n * 2048) (omega arith) (omega arith))

  -- in units: 2 ^ 104 for the places that the parts have more, 2 ^ 22 for the 11 that each was moved up
  scaled : m * 2048 * (n * 2048) * 2 ^ (e + f) * 2 ^ low binary64 ≡ units_of p * units_of o * (word * (1024 * 2 ^ 1126))
  scaled =
      ap (λ (x : ℕ). m * 2048 * (n * 2048) * x * 2 ^ 1074) (pow-add 2 e f)
      ∙ ap (λ (x : ℕ). x * 2 ^ 1074) (apart m n (2 ^ e) (2 ^ f) 2048)
      ∙ ap (λ (x : ℕ). x * (n * 2 ^ f) * (2048 * 2048) * 2 ^ 1074) a.units
      ∙ ap (λ (x : ℕ). units_of p * leading * x * (2048 * 2048) * 2 ^ 1074) b.units
      ∙ gathered (units_of p) (units_of o) leading (2048 * 2048) (2 ^ 1074)

  pub product_is : pattern binary64 (r * 2 ^ (e + f)) (1024 * 2 ^ 1126) ≡ product_of_units (units_of p) (units_of o)
  unfolding product_of_units
  product_is =
      let u = m * 2048 * (n * 2048) in
      standing_placed 256 r u word (e + f) 1126 (lit< tt) (lit< tt) product_large standing
      ∙ pattern_same binary64 (u * 2 ^ (e + f)) (word * (1024 * 2 ^ 1126)) (units_of p * units_of o) (2 ^ low binary64)
      (lit< tt) (pow_pos (low binary64)) scaled
