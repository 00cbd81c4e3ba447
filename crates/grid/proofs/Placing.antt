-- The flat number of a place, axis after axis.
use native.Mathlib.Omega.{arith}
use native.Mathlib.Nat.{lt_of_lt_of_le}
use native.Mathlib.Numerals.{add-one}
use mathlib.Core.Path.{◌≡◌, refl}
use Prim.Native.Nat.{ℕ, ◌+◌, ◌*◌, ◌<◌}
use Rattle.rules.specs.Sizes.{Place, flat}
use Rattle.rules.proofs.Places.{OnGrid, flat_below}
use Rattle.grid.specs.GridOfCall.{SizesGiven}
use Rattle.grid.proofs.Products.{sizes_fewer}

pub number_none : (n : ℕ → ℕ) (place : Place) → 0 ≡ flat n 0 place
unfolding flat
number_none n place = refl

module _ (n : ℕ → ℕ) (place : Place) (number j : ℕ) (so_far : number ≡ flat n j place) where
  pub number_more : number * n j + place j ≡ flat n (j + 1) place
  unfolding flat
  number_more = rw (add-one, so_far)

  pub number_fits : (axes : ℕ) → SizesGiven axes n → OnGrid n axes place → j < axes → number * n j + place j < 4096
  number_fits axes given on l =
      let fewer = sizes_fewer given (j + 1) (omega arith) in
      rw number_more (lt_of_lt_of_le (flat_below n (j + 1) place (λ k below. on k (omega arith))) fewer.small)
