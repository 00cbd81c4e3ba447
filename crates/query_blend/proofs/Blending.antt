-- One axis removed by its weights is one step of the blend.
use mathlib.Core.Path.{◌≡◌, refl, ◌∙◌}
use mathlib.Core.List.{List}
use Prim.Native.Nat.{ℕ, suc, ◌^◌}
use lib.Ieee.{Float}
use Rattle.rules.specs.Numbers.{at}
use Rattle.rules.specs.Query.{without_lowest, blend}
use Rattle.rules.proofs.Cells.{blend_ext}
use Rattle.query_blend.specs.Blend.{WeightsOf, Smaller}
use Rattle.query_blend.specs.declared.Weights.{Weights}

-- what a cell is without its lowest axis is blended on
pub blended_on :
    (left lowest : ℕ) (widths ts : ℕ → Float) (w : Weights) (cell : ℕ → Float) (later : List Float)
    → WeightsOf (widths lowest) (ts lowest) w
    → Smaller w (4 ^ left) cell later → blend left (suc lowest) widths ts (at later) ≡ blend (suc left) lowest widths ts cell
unfolding blend without_lowest
blended_on left lowest widths ts w cell later weights smaller =
    blend_ext left (suc lowest) widths widths ts ts (at later) (without_lowest (4 ^ left) (widths lowest) (ts lowest) cell)
    (λ i a b. refl)
    (λ i a b. refl)
    (λ e h. smaller e h ∙ weights.blended _ _ _ _)
