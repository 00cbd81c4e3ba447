-- What stands in the scratch, and in the buffer of knots, after a build that neither copies its tensor nor clears behind itself.
use Rattle.std.specs.Prelude.{◌≡◌, List, ℕ, take, drop, Float}
use Rattle.rules.specs.Numbers.{zeros}
use Rattle.rules.specs.Sizes.{Grid, tensor_length}
use Rattle.rules.specs.Tensor.{tensor}
use Rattle.rules.specs.Calls.{build_refusal}
use Rattle.grid_scratch.specs.Layout.{tensor_begin}
use Rattle.sheet_read.specs.Fields.{sheet_grid, sheet_samples}
use Rattle.sheet_read.specs.Read.{over}
use Rattle.sheet_build.specs.SheetTensor.{building_refusal}

-- the refusal is that of a build that has places for n numbers, and after 0 the tensor stands behind the rows
pub record InScratch (g : Grid) (samples : List Float) (n : ℕ) (scratch : List Float) (refusal : ℕ) (later : List Float) : Type 0 where
  pub answer : refusal ≡ build_refusal g samples (zeros n) scratch
  pub output : refusal ≡ 0 → take n (drop tensor_begin later) ≡ tensor g samples

-- the same of a sheet, whose knots stand in the first places of their buffer
pub record SheetInScratch (bytes : List ℕ) (knots_lent : List Float) (refusal : ℕ) (knots_later scratch_later : List Float) : Type 0 where
  pub refused : refusal ≡ building_refusal bytes
  pub knots : knots_later ≡ over (sheet_grid bytes).flat_knots knots_lent
  pub output : refusal ≡ 0
      → take (tensor_length (sheet_grid bytes)) (drop tensor_begin scratch_later) ≡ tensor (sheet_grid bytes) (sheet_samples bytes)
