-- The value of a query on one axis or more is a number of binary64: its last operation rounds to one.
use Prim.Native.Nat.{ℕ, zero, suc, ◌≤◌}
use native.Mathlib.Omega.{arith}
use mathlib.Core.List.{List}
use lib.Dec.{T}
use lib.Ieee.{Float, binary64, fits}
use lib.Ieee.Fits.{add-fits}
use Rattle.rules.specs.Sizes.{Grid}
use Rattle.rules.specs.Query.{hermite, without_lowest, blend, value_in, query_in_modes}

without_fits : (size : ℕ) (width t : Float) (cell : ℕ → Float) (e : ℕ) → T (fits binary64 (without_lowest size width t cell e))
unfolding without_lowest hermite
without_fits size width t cell e = add-fits binary64 _ _

blend_fits : (axes lowest : ℕ) (widths ts cell : ℕ → Float) → ((e : ℕ) → T (fits binary64 (cell e)))
    → T (fits binary64 (blend axes lowest widths ts cell))
unfolding blend
blend_fits zero lowest widths ts cell held = held 0
blend_fits (suc axes) lowest widths ts cell held = blend_fits axes (suc lowest) widths ts _ (λ e. without_fits _ _ _ cell e)

blended_fits : (axes : ℕ) (widths ts cell : ℕ → Float) → 1 ≤ axes → T (fits binary64 (blend axes 0 widths ts cell))
unfolding blend
blended_fits zero widths ts cell some = absurd (omega arith)
blended_fits (suc axes) widths ts cell some = blend_fits axes 1 widths ts _ (λ e. without_fits _ _ _ cell e)

pub value_fits : (g : Grid) (tensor : List Float) (point : ℕ → Float) → 1 ≤ g.axes → T (fits binary64 (query_in_modes g tensor point))
unfolding query_in_modes value_in
value_fits g tensor point some = blended_fits g.axes _ _ _ some
