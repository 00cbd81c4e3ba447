-- The promise has one answer, and no answer depends on the payload of a NaN: patterns of the same numbers are answered alike.
use mathlib.Core.Path.{◌≡◌, sym, ap, ◌∙◌}
use mathlib.Core.Bool.{not}
use mathlib.Core.List.{List}
use Prim.Native.Nat.{ℕ, ◌+◌, ◌-◌, ◌%◌, ◌<◌}
use lib.Dec.{eqb}
use lib.Ieee.{binary64, of_bits}
use Rattle.rules.proofs.Refused.{any_ext}
use Rattle.rules.proofs.Tables.{table_ext}
use Rattle.base_numbers.proofs.Finite.{nan_pattern}
use Rattle.sheet_patterns.specs.Patterns.{pattern, coordinates, unused_refused}
use Rattle.sheet_read.specs.Fields.{sheet_grid}
use Rattle.sheet_surface.specs.SheetSurface.{asked, surface_refusal, surface, SurfacePromise}

pub surface_unique : (bytes patterns : List ℕ) (r r' : ℕ) → SurfacePromise bytes patterns r → SurfacePromise bytes patterns r' → r ≡ r'
surface_unique bytes patterns r r' p q = p.answer ∙ sym q.answer

-- every pattern of a NaN, whatever its sign and payload, gives one number
pub one_nan : (m n : ℕ) → 0x7FF0_0000_0000_0000 < m % 0x8000_0000_0000_0000 → 0x7FF0_0000_0000_0000 < n % 0x8000_0000_0000_0000
    → of_bits binary64 m ≡ of_bits binary64 n
one_nan m n a b = sym (nan_pattern m a) ∙ nan_pattern n b

module _ (bytes p q : List ℕ) where
  abbrev axes : ℕ
  axes = (sheet_grid bytes).axes

  -- and patterns of the same numbers on the axes in use are answered alike
  pub same_numbers_answered_alike :
      ((i : ℕ) → i < axes → of_bits binary64 (pattern p i) ≡ of_bits binary64 (pattern q i))
      → ((k : ℕ) → k < 4 - axes → pattern p (axes + k) ≡ pattern q (axes + k))
      → surface bytes p ≡ surface bytes q
  unfolding surface surface_refusal asked
  same_numbers_answered_alike used unused =
      let c : coordinates axes p ≡ coordinates axes q = table_ext axes _ _ used in
      let u : unused_refused axes p ≡ unused_refused axes q = any_ext _ _ (4 - axes) (λ k l. ap (λ (n : ℕ). not (eqb n 0)) (unused k l)) in
      rw (c, u)
