-- The magnitudes of patterns as whole numbers of units: their parts, their order, and the digits with the leading one in its place.
use mathlib.Core.Path.{◌≡◌, refl, sym, ap, ◌∙◌, subst}
use mathlib.Core.Logic.{◌⊎◌, inl, inr}
use Prim.Native.Nat.{ℕ, zero, suc, ◌+◌, ◌-◌, ◌*◌, ◌/◌, ◌%◌, ◌^◌, ◌≤◌, ◌<◌}
use native.Mathlib.Nat.{
  le_trans,
  le_of_eq,
  lt_of_lt_of_le,
  zero-lt-suc,
  mul-one,
  mul_assoc,
  mul-pos,
  mul-le-mul_right,
  mul-le-mul_left,
  mul-lt-mul_of_pos_right,
  eq-or-lt_of_le,
  mod-eq_of_lt,
  pow-succ',
}
use native.Mathlib.Omega.{arith}
use lib.Count.{count_leading_zeros, leading_top}
use lib.Pow.{pow-add, pow_pos, pow_mono}
use Rattle.doubles_patterns.specs.Patterns.{word, leading, infinity, exponent_of, digits_of, units_of}
use Rattle.doubles_patterns.specs.Finite.{Fields, Raised}
use Rattle.doubles_patterns.proofs.Sizes.{le_or_lt}

-- ---- the fields of a finite pattern
pub fields_of : (p e : ℕ) → p < infinity → e ≡ exponent_of p → Fields p e (p - e * leading)
unfolding exponent_of
fields_of p e h is = record { whole = omega arith; high = omega arith; short = omega arith; long = λ g. omega arith }

-- a larger pattern has no smaller exponent
pub exponents : (p e m o f n : ℕ) → Fields p e m → Fields o f n → o ≤ p → f ≤ e
exponents p e m o f n a b h = go (le_or_lt f e)
  where
    go : (f ≤ e) ⊎ (e < f) → f ≤ e
    go (inl g) = g
    go (inr g) = let l : leading ≤ n = b.long (omega arith) in absurd (let z : ⊥ = omega arith in z)

pub larger : (p e m o f n : ℕ) → Fields p e m → Fields o f n → o < p → n * 2 ^ f < m * 2 ^ e
larger p e m o f n a b h = go (eq-or-lt_of_le (exponents p e m o f n a b (omega arith)))
  where
    go : (f ≡ e) ⊎ (f < e) → n * 2 ^ f < m * 2 ^ e
    go (inl g) =
        subst (λ (x : ℕ). n * 2 ^ f < m * 2 ^ x) g
        (mul-lt-mul_of_pos_right (let x = a.whole in let y = b.whole in omega arith) (pow_pos f))
    go (inr g) =
        let l : leading ≤ m = a.long (omega arith) in
        let s : n < 2 * leading = b.short in
        lt_of_lt_of_le (mul-lt-mul_of_pos_right s (pow_pos f))
        (le_trans (le_of_eq (twice f)) (le_trans (mul-le-mul_left leading (pow_mono g)) (mul-le-mul_right (2 ^ e) l)))
      where
        twice : (f : ℕ) → 2 * leading * 2 ^ f ≡ leading * 2 ^ suc f
        twice f = rw (pow-succ' 2 f) (omega arith)

-- ---- units
pub units_is : (p e : ℕ) → e ≡ exponent_of p → units_of p ≡ (p - e * leading) * 2 ^ e
unfolding units_of digits_of
units_is p e h = ap (λ (x : ℕ). (p - x * leading) * 2 ^ x) (sym h)

pub units_less : (p o : ℕ) → p < infinity → o < p → units_of o < units_of p
units_less p o h g =
    let e = exponent_of p in
    let f = exponent_of o in
    subst (λ (x : ℕ). x < units_of p) (sym (units_is o f refl))
    (subst (λ (x : ℕ). (o - f * leading) * 2 ^ f < x) (sym (units_is p e refl))
    (larger p e (p - e * leading) o f (o - f * leading) (fields_of p e h refl) (fields_of o f (omega arith) refl) g))

pub some_digits : (p e m : ℕ) → Fields p e m → 0 < p → 0 < m
some_digits p zero m a h = let w = a.whole in omega arith
some_digits p (suc e) m a h = let l = a.long (zero-lt-suc e) in omega arith

pub units_zero : units_of 0 ≡ 0
unfolding units_of
units_zero = refl

pub units_some : (p : ℕ) → p < infinity → 0 < p → 0 < units_of p
units_some p h g =
    subst (λ (x : ℕ). 0 < x) (sym (units_is p (exponent_of p) refl))
    (mul-pos (some_digits p (exponent_of p) (p - exponent_of p * leading) (fields_of p (exponent_of p) h refl) g) (pow_pos (exponent_of p)))

-- ---- the digits with the leading one in its place: a normal number has it there
one_more : (x : ℕ) → 0 < x → x + 51 ≡ x - 1 + 52
one_more x h = omega arith

pub raised_normal : (p : ℕ) → leading ≤ p → p < infinity → Raised p (p % leading + leading) (p / leading + 51)
unfolding exponent_of
raised_normal p normal finite =
    let e = exponent_of p in
    let digits : p - e * leading ≡ p % leading + leading = omega arith in
    record {
      units =
          ap (λ (x : ℕ). (p % leading + leading) * 2 ^ x) (one_more (p / leading) (omega arith))
          ∙ ap (λ (x : ℕ). (p % leading + leading) * x) (pow-add 2 e 52)
          ∙ sym (mul_assoc (p % leading + leading) (2 ^ e) leading)
          ∙ ap (λ (x : ℕ). x * 2 ^ e * leading) (sym digits)
          ∙ ap (λ (x : ℕ). x * leading) (sym (units_is p e refl));
      long = omega arith;
      short = omega arith;
      high = omega arith;
    }

-- ---- and a subnormal one is moved up to it, by eleven places fewer than a word has before its first digit
module _ (p : ℕ) (some : 0 < p) (subnormal : p < leading) where
  few_places : (j : ℕ) → 2 ^ j ≤ p → j < 52
  few_places j reached = go (le_or_lt 52 j)
    where
      go : (52 ≤ j) ⊎ (j < 52) → j < 52
      go (inr h) = h
      go (inl h) = let high : leading ≤ 2 ^ j = pow_mono {i = 52} {j = j} h in let z : ⊥ = omega arith in absurd z

  pub places_up : (11 ≤ count_leading_zeros 64 p) × (count_leading_zeros 64 p ≤ 63)
  places_up =
      let t = leading_top 64 p some (omega arith) in
      let few = few_places t.0 t.2 in
      let sum = t.1 in
      (omega arith, omega arith)

  units_alone : units_of p ≡ p
  unfolding exponent_of
  units_alone = units_is p 0 (omega arith) ∙ mul-one (p - 0 * leading) ∙ (omega arith)

  pub raised_subnormal : Raised p (p * 2 ^ (count_leading_zeros 64 p - 11) % word) (52 - (count_leading_zeros 64 p - 11))
  raised_subnormal =
      let t = leading_top 64 p some (omega arith) in
      let j = t.0 in
      let u = count_leading_zeros 64 p - 11 in
      let few = few_places j t.2 in
      let sum = t.1 in
      let least : leading ≤ p * 2 ^ u = le_trans (le_of_eq (powers 52 j u (omega arith))) (mul-le-mul_right (2 ^ u) t.2) in
      let most : p * 2 ^ u < 2 * leading =
      lt_of_lt_of_le (mul-lt-mul_of_pos_right t.3 (pow_pos u)) (le_of_eq (sym (powers 53 (suc j) u (omega arith)))) in
      let fits : p * 2 ^ u % word ≡ p * 2 ^ u = mod-eq_of_lt (omega arith) in
      record {
        units =
            ap (λ (x : ℕ). x * 2 ^ (52 - u)) fits ∙ mul_assoc p (2 ^ u) (2 ^ (52 - u))
            ∙ ap (λ (x : ℕ). p * x) (sym (powers 52 u (52 - u) (omega arith)))
            ∙ ap (λ (x : ℕ). x * leading) (sym units_alone);
        long = omega arith;
        short = omega arith;
        high = omega arith;
      }
    where
      powers : (x y z : ℕ) → x ≡ y + z → 2 ^ x ≡ 2 ^ y * 2 ^ z
      powers x y z e = ap (λ (w : ℕ). 2 ^ w) e ∙ pow-add 2 y z
