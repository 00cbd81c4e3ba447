-- The product of two words by halves of 32 places: its upper word, and whether the lower one is zero.
use mathlib.Core.Path.{◌≡◌, refl, sym, ap, ◌∙◌}
use mathlib.Core.Logic.{inl, inr}
use Prim.Native.Nat.{ℕ, ◌+◌, ◌*◌, ◌/◌, ◌%◌, ◌≤◌, ◌<◌}
use native.Mathlib.Nat.{
  le_trans,
  le_of_eq,
  lt_of_le_of_lt,
  mul_assoc,
  mul_right_comm,
  add-mul,
  mul-add,
  mul-le-mul_right,
  mul-le-mul_left,
  mul-lt-mul_of_pos_right,
  lt_of_mul-lt-mul_right,
  div-add-mod',
  mod-lt,
}
use native.Mathlib.Omega.{arith}
use lib.Dec.{lit<}
use Rattle.doubles_patterns.specs.Patterns.{word}
use Rattle.doubles_rounding.specs.Standing.{StandsFor}
use Rattle.doubles_rounding.proofs.Placing.{odd_near}

abbrev half : ℕ
half = 4294967296

-- ---- the four products of halves, each below a word with room for half a word more
pub half_product : (x y : ℕ) → x < half → y < half → x * y ≤ 18446744065119617025
half_product x y h g = le_trans (mul-le-mul_right y (below x h)) (le_trans (mul-le-mul_left 4294967295 (below y g)) (le_of_eq refl))
  where
    below : (x : ℕ) → x < half → x ≤ 4294967295
    below x h = omega arith

opened : (x1 x0 y1 y0 : ℕ) → (x1 * half + x0) * (y1 * half + y0) ≡ x1 * y1 * word + (x1 * y0 + x0 * y1) * half + x0 * y0
opened x1 x0 y1 y0 =
    let y = y1 * half + y0 in
    let a : (x1 * half + x0) * y ≡ x1 * half * y + x0 * y = add-mul (x1 * half) x0 y in
    let b : x1 * half * y ≡ x1 * y * half = mul_right_comm x1 half y in
    let c : x1 * y ≡ x1 * y1 * half + x1 * y0 =
    mul-add x1 (y1 * half) y0 ∙ ap (λ (z : ℕ). z + x1 * y0) (sym (mul_assoc x1 y1 half)) in
    let d : x0 * y ≡ x0 * y1 * half + x0 * y0 =
    mul-add x0 (y1 * half) y0 ∙ ap (λ (z : ℕ). z + x0 * y0) (sym (mul_assoc x0 y1 half)) in
    omega arith

-- each sum carries its upper half to the next
carried : (h s t l l1 l0 m1 m0 o1 o0 : ℕ) → l1 * half + l0 ≡ l → m1 * half + m0 ≡ s + l1 → o1 * half + o0 ≡ t + m0
    → (h + m1 + o1) * word + (o0 * half + l0) ≡ h * word + (s + t) * half + l
carried h s t l l1 l0 m1 m0 o1 o0 p q r = omega arith

module _ (u v : ℕ) where
  abbrev pub lowest : ℕ
  lowest = u % half * (v % half)

  abbrev pub middle : ℕ
  middle = u / half * (v % half) + lowest / half

  abbrev pub other : ℕ
  other = u % half * (v / half) + middle % half

  abbrev pub high : ℕ
  high = u / half * (v / half) + middle / half + other / half

  -- none of the sums leaves its word
  module _ (hu : u < word) (hv : v < word) where
    pub lowest_fits : lowest < word
    lowest_fits = let h = half_product (u % half) (v % half) (omega arith) (omega arith) in omega arith

    pub middle_fits : middle < word
    middle_fits =
        let h = half_product (u / half) (v % half) (omega arith) (omega arith) in
        let l = lowest_fits in
        omega arith

    pub other_fits : other < word
    other_fits = let h = half_product (u % half) (v / half) (omega arith) (omega arith) in omega arith

  abbrev lower : ℕ
  lower = other % half * half + lowest % half

  both_words : high * word + lower ≡ u * v
  both_words =
      carried (u / half * (v / half)) (u / half * (v % half)) (u % half * (v / half)) lowest (lowest / half) (lowest % half) (middle / half)
      (middle % half) (other / half) (other % half) (div-add-mod' lowest half) (div-add-mod' middle half) (div-add-mod' other half)
      ∙ sym (opened (u / half) (u % half) (v / half) (v % half))
      ∙ ap (λ (z : ℕ). z * (v / half * half + v % half)) (div-add-mod' u half) ∙ ap (λ (z : ℕ). u * z) (div-add-mod' v half)

  pub high_fits : u < word → v < word → high < word
  high_fits hu hv =
      lt_of_mul-lt-mul_right word
      (lt_of_le_of_lt (upper high lower (u * v) both_words)
      (lt_of_le_of_lt (mul-le-mul_left u (at_most v hv)) (mul-lt-mul_of_pos_right {k = word} hu (lit< tt))))
    where
      upper : (h l t : ℕ) → h * word + l ≡ t → h * word ≤ t
      upper h l t e = omega arith

      at_most : (v : ℕ) → v < word → v ≤ word
      at_most v h = omega arith

  pub first_fits : u < word → v < word → u / half * (v / half) + middle / half < word
  first_fits hu hv = first (u / half * (v / half) + middle / half) (other / half) (high_fits hu hv)
    where
      first : (a b : ℕ) → a + b < word → a < word
      first a b h = omega arith

  pub product_exact : lowest % half + other % half ≡ 0 → StandsFor high (u * v) word
  product_exact none = record { stands = inl (alone high (other % half) (lowest % half) (u * v) both_words none) }
    where
      alone : (h m l t : ℕ) → h * word + (m * half + l) ≡ t → l + m ≡ 0 → h * word ≡ t
      alone h m l t e z = omega arith

  pub product_lost : (lowest % half + other % half ≡ 0 → ⊥) → StandsFor (high / 2 * 2 + 1) (u * v) word
  product_lost some =
      let x = between high (other % half) (lowest % half) (u * v) both_words (mod-lt other (lit< tt)) (mod-lt lowest (lit< tt)) some in
      record { stands = inr (odd_near high (u * v) word x.0 x.1) }
    where
      between : (h m l t : ℕ) → h * word + (m * half + l) ≡ t → m < half → l < half → (l + m ≡ 0 → ⊥)
          → (h * word < t) × (t < h * word + word)
      between h m l t e f g z = (omega arith, omega arith)

pub even_fits : (h : ℕ) → h < word → h / 2 * 2 < word
even_fits h l = omega arith

pub odd_fits : (h : ℕ) → h < word → h / 2 * 2 + 1 < word
odd_fits h l = omega arith
