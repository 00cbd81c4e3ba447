-- Patterns by their kind: the value of a finite one, NaN, an infinity with its sign; and when a value is zero.
use mathlib.Core.Path.{◌≡◌, refl, sym, ap, ◌∙◌, subst}
use mathlib.Core.Bool.{Bool, true, false, false≢true}
use mathlib.Core.Logic.{◌⊎◌, inl, inr}
use Prim.Native.Nat.{ℕ, ◌+◌, ◌*◌, ◌/◌, ◌%◌, ◌^◌, ◌<◌}
use native.Mathlib.Nat.{lt_irrefl, eq-zero-or-pos, zero-mul, mul-pos}
use native.Mathlib.Omega.{arith}
use borrow.Author.Tests.{lt-ltb, leb-true, leb-false}
use lib.Ieee.{Float, nan, inf, fin, binary64, low, of_fields, of_bits, to_bits, is_nan}
use lib.Ieee.Bits.{nan_bits_is, nan_bits_above}
use lib.Ieee.Exact.{HasValue}
use Rattle.doubles_patterns.specs.Patterns.{
  word,
  top_place,
  leading,
  infinity,
  not_a_number,
  magnitude,
  negative,
  sign_weight,
  units_of,
}
use Rattle.doubles_patterns.proofs.Values.{of_bits_is, finite_value}

-- ---- a finite pattern
pub value_of : (b : ℕ) → magnitude b < infinity
    → HasValue (of_bits binary64 b) (negative b) (units_of (magnitude b)) (2 ^ low binary64)
unfolding units_of
value_of b h = finite_value binary64 b h

-- ---- NaN
nan_only : (x : Float) → is_nan x ≡ true → x ≡ nan
unfolding is_nan
nan_only nan h = refl
nan_only (inf s) h = absurd (false≢true h)
nan_only (fin s m e) h = absurd (false≢true h)

pub nan_of : (a : ℕ) → infinity < magnitude a → of_bits binary64 a ≡ nan
nan_of a h = nan_only (of_bits binary64 a) (sym (nan_bits_is binary64 a) ∙ nan_bits_above binary64 a ∙ lt-ltb infinity (magnitude a) h)

pub to_bits_nan : to_bits binary64 nan ≡ not_a_number
unfolding to_bits
to_bits_nan = refl

-- ---- infinity
fields_inf : (s : Bool) → of_fields binary64 s 2047 0 ≡ inf s
unfolding of_fields
fields_inf s = refl

pub inf_of : (a : ℕ) → magnitude a ≡ infinity → of_bits binary64 a ≡ inf (negative a)
inf_of a h =
    of_bits_is binary64 a
    ∙ ap (λ (z : ℕ). of_fields binary64 (negative a) (z / leading) (a % leading)) h
    ∙ ap (of_fields binary64 (negative a) 2047) (no_digits a h)
    ∙ fields_inf (negative a)
  where
    no_digits : (a : ℕ) → magnitude a ≡ infinity → a % leading ≡ 0
    no_digits a h = omega arith

pub to_bits_inf : (s : Bool) → to_bits binary64 (inf s) ≡ sign_weight s + infinity
unfolding to_bits
to_bits_inf s = refl

-- the pattern of an infinity
pub whole : (a : ℕ) → a < word → magnitude a ≡ infinity → sign_weight (negative a) + infinity ≡ a
whole a small h = go (negative a) refl
  where
    go : (s : Bool) → negative a ≡ s → sign_weight s + infinity ≡ a
    go true e = let g = leb-true top_place a e in omega arith
    go false e = let g = leb-false top_place a e in omega arith

-- a finite value is zero where it has no units
pub value_zero : (m u L Y d : ℕ) → 0 < u → 0 < L → m * u * L ≡ Y * d → Y ≡ 0 → m ≡ 0
value_zero m u L Y d U l h z = go (eq-zero-or-pos m)
  where
    go : (m ≡ 0) ⊎ (0 < m) → m ≡ 0
    go (inl e) = e
    go (inr p) = absurd (lt_irrefl 0 (subst (λ (x : ℕ). 0 < x) (h ∙ ap (λ (y : ℕ). y * d) z ∙ zero-mul d) (mul-pos (mul-pos p U) l)))

pub value_some : (m u L Y d : ℕ) → 0 < Y → 0 < d → m * u * L ≡ Y * d → m ≡ 0 → ⊥
value_some m u L Y d y D h z =
    lt_irrefl 0 (subst (λ (x : ℕ). 0 < x) (sym h ∙ ap (λ (k : ℕ). k * u * L) z ∙ ap (λ (k : ℕ). k * L) (zero-mul u) ∙ zero-mul L)
    (mul-pos y D))
