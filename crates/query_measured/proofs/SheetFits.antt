-- The numbers of a sheet, its knots and its samples, are numbers of an f64.
use mathlib.Core.List.{List, [], ◌∷◌, ◌++◌}
use Prim.Native.Nat.{ℕ, zero, suc, ◌*◌, ◌+◌}
use lib.Ieee.{Float, binary64}
use lib.Ieee.Bits.{of_bits-fits}
use lib.Ieee.Fits.{nan-fits}
use Rattle.rules.specs.Sizes.{samples_length}
use Rattle.base_floats.specs.Place.{AllFit}
use Rattle.base_bits.specs.Bits.{field, number, numbers}
use Rattle.query_quick.proofs.QuickIsFull.{table_fits}
use Rattle.sheet_read.specs.Fields.{
  axes,
  points_at,
  knots_begin,
  knots_at,
  axis_begin,
  knots_below,
  sheet_grid,
  samples_begin,
  sheet_samples,
}

-- ---- a sheet

numbers_fit : (bytes : List ℕ) (begin n : ℕ) → AllFit (numbers bytes begin n)
numbers_fit bytes begin n =
    table_fits n (λ k. number bytes (begin + 64 * k)) (λ k. of_bits-fits binary64 (field bytes (begin + 64 * k) 64))

joined_fit : (xs ys : List Float) → AllFit xs → AllFit ys → AllFit (xs ++ ys)
joined_fit [] ys p q k = q k
joined_fit (x ∷ xs) ys p q zero = p 0
joined_fit (x ∷ xs) ys p q (suc k) = joined_fit xs ys (λ j. p (suc j)) q k

below_fit : (bytes : List ℕ) (i : ℕ) → AllFit (knots_below bytes i)
unfolding knots_below knots_at
below_fit bytes zero = λ k. nan-fits binary64
below_fit bytes (suc i) =
    let begin = axis_begin bytes i in
    joined_fit (knots_below bytes i) (knots_at bytes begin) (below_fit bytes i)
    (numbers_fit bytes (knots_begin bytes begin) (points_at bytes begin))

pub sheet_knots_fit : (bytes : List ℕ) → AllFit (sheet_grid bytes).flat_knots
unfolding sheet_grid
sheet_knots_fit bytes = below_fit bytes (axes bytes)

pub sheet_samples_fit : (bytes : List ℕ) → AllFit (sheet_samples bytes)
sheet_samples_fit bytes = numbers_fit bytes (samples_begin bytes) (samples_length (sheet_grid bytes))
