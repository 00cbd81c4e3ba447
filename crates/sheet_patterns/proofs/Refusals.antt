-- No number has the pattern of a refusal, and no two refusals have one pattern.
use mathlib.Core.Path.{◌≡◌, refl, sym, ap, ◌∙◌}
use mathlib.Core.Bool.{true, false}
use Prim.Native.Nat.{ℕ, zero, suc, ◌<◌}
use native.Mathlib.Omega.{arith}
use lib.Dec.{T}
use lib.Ieee.{Float, nan, binary64, fits, of_bits, to_bits, div}
use lib.Ieee.Bits.{of_bits-to_bits}
use lib.Ieee.Scale.{finite}
use Rattle.base_numbers.proofs.Finite.{nan_pattern}
use Rattle.sheet_patterns.specs.Patterns.{refusal_pattern, answer_pattern}

-- the pattern of a refusal is that of a NaN, as far as there are bits for its number
pattern_of_nan : (refusal : ℕ) → refusal < 0x0008_0000_0000_0000 → of_bits binary64 (refusal_pattern refusal) ≡ nan
unfolding of_bits div
pattern_of_nan refusal small = sym (nan_pattern (refusal_pattern refusal) (omega arith))

nan_not_finite : (value : Float) → value ≡ nan → finite value ≡ true → ⊥
nan_not_finite value is fine =
    let t : true ≡ false = sym fine ∙ ap finite is in
    let z : ◌≡◌ {A = ℕ} 0 1 = cc in absurd (omega (arith, z))

-- so no finite number of binary64 has it
pub no_number : (value : Float) → T (fits binary64 value) → finite value ≡ true → (refusal : ℕ) → refusal < 0x0008_0000_0000_0000
    → to_bits binary64 value ≡ refusal_pattern refusal → ⊥
no_number value held fine refusal small e =
    nan_not_finite value (sym (of_bits-to_bits binary64 value held) ∙ ap (of_bits binary64) e ∙ pattern_of_nan refusal small) fine

-- and another refusal has another
pub refusals_apart : (a b : ℕ) → refusal_pattern a ≡ refusal_pattern b → a ≡ b
refusals_apart a b e = omega arith

-- ---- what is answered

pub refused_with : (refusal : ℕ) (value : Float) → (refusal ≡ 0 → ⊥) → refusal_pattern refusal ≡ answer_pattern refusal value
refused_with zero value met = absurd (met refl)
refused_with (suc refusal) value met = refl

pub accepted_with : (refusal : ℕ) (value : Float) → refusal ≡ 0 → to_bits binary64 value ≡ answer_pattern refusal value
accepted_with refusal value none = rw none
