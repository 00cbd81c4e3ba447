-- What a call of `blend` leaves to the next: the blend of a cell with one axis fewer is that of the cell.
use native.Mathlib.Omega.{arith}
use mathlib.Core.Path.{◌≡◌, refl, ap₂, ◌∙◌}
use mathlib.Core.Logic.{◌≢◌}
use mathlib.Core.List.{List}
use Prim.Native.Nat.{ℕ, zero, suc, ◌+◌, ◌-◌, ◌^◌, ◌≤◌}
use lib.Ieee.{Float}
use Rattle.rules.specs.Numbers.{at}
use Rattle.rules.specs.Sizes.{place_of}
use Rattle.rules.specs.Query.{blend}
use Rattle.query_blend.specs.Blend.{WeightsOf, weights_in, WeightsOn, Smaller}
use Rattle.query_blend.specs.declared.Weights.{Weights}
use Rattle.query_blend.proofs.Blending.{blended_on}
use Rattle.query_cell.specs.Points.{numbers, Removed, BlendedOn}

module _ (axes : ℕ) (points lower : List ℕ) (weights tensor : List Float) where
  pub none_left :
      (left : ℕ) (cell : List Float) → 1 ≤ axes → left ≡ 0 → BlendedOn axes left points lower weights tensor cell (at cell 0)
  unfolding blend
  none_left left cell some none = record { all = λ same. absurd (omega arith); fewer = λ less widths ts on. rw none refl }

  -- the weights of the lowest of the axes that are left remove it
  on_without :
      (k : ℕ) (widths ts : ℕ → Float) → suc k ≤ axes → WeightsOn axes 0 widths ts weights → (cell : ℕ → Float) (later : List Float)
      → Smaller (weights_in weights (axes - suc k)) (4 ^ k) cell later
      → blend k (axes - k) widths ts (at later) ≡ blend (suc k) (axes - suc k) widths ts cell
  on_without k widths ts few on cell later smaller =
      let next : axes - k ≡ suc (axes - suc k) = omega arith in
      let sum : 0 + (axes - suc k) ≡ axes - suc k = omega arith in
      let w : Weights = weights_in weights (axes - suc k) in
      let of_axis : WeightsOf (widths (axes - suc k)) (ts (axes - suc k)) w = rw sum at (on (axes - suc k) (omega arith)) in
      rw next (blended_on k (axes - suc k) widths ts w cell later of_axis smaller)

  pub one_fewer :
      (left : ℕ) (cell later : List Float) → left ≢ 0 → left ≤ axes
      → Removed axes left points lower tensor (weights_in weights (axes - left)) cell later
      → (r : Float) → BlendedOn axes (left - 1) points lower weights tensor later r → BlendedOn axes left points lower weights tensor cell r
  one_fewer zero cell later some few removed r rest = absurd (some refl)
  one_fewer (suc k) cell later some few removed r rest =
      let less : suc k - 1 ≡ k = omega arith in
      let on_rest = rw less at rest.fewer in
      let X : ℕ → Float = numbers axes (place_of points) tensor (place_of lower) in
      record {
        all = λ same widths ts on.
            let before : axes - 1 ≡ k = omega arith in
            let none : axes - suc k ≡ 0 = omega arith in
            on_rest (omega arith) widths ts on
            ∙ on_without k widths ts few on X later (rw before at (removed.first same))
            ∙ ap₂ (λ (d a : ℕ). blend d a widths ts X) same none;
        fewer = λ below widths ts on.
            on_rest (omega arith) widths ts on
            ∙ on_without k widths ts few on (at cell) later (rw less at (removed.further (λ same. let z : ⊥ = omega arith in z)));
      }
