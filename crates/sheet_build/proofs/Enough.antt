-- Lent enough, a sheet's read and build refuse what the sheet alone gives rise to.
use mathlib.Core.Path.{◌≡◌, refl}
use mathlib.Core.List.{List}
use Prim.Native.Nat.{ℕ, zero, suc, ◌≤◌}
use native.Mathlib.Omega.{arith}
use borrow.Author.Tests.{eq-eqb, le-ltb, ltb-false}
use lib.ListN.{length, take, length-take, length-replicate}
use lib.Ieee.{Float}
use Rattle.rules.specs.Numbers.{plus_zero, zeros}
use Rattle.rules.specs.Sizes.{tensor_length, scratch_length}
use Rattle.rules.specs.Calls.{or_else, build_refusal}
use Rattle.sheet_read.specs.Fields.{sheet_grid, sheet_samples}
use Rattle.sheet_read.specs.Faults.{sheet_refusal}
use Rattle.sheet_read.specs.Read.{read_refusal}
use Rattle.sheet_read.proofs.Parts.{parts}
use Rattle.sheet_build.specs.SheetTensor.{parts_refusal, building_refusal, own_refusal, reading_refusal, sheet_tensor_refusal}
use Rattle.sheet_build.specs.LentEnough.{Enough}

-- a build that is lent a tensor of its length and enough scratch
pub lent_build : (bytes : List ℕ) (lent scratch : List Float) → length lent ≡ tensor_length (sheet_grid bytes)
    → scratch_length (sheet_grid bytes) ≤ length scratch
    → build_refusal (sheet_grid bytes) (sheet_samples bytes) lent scratch ≡ building_refusal bytes
unfolding build_refusal building_refusal
lent_build bytes lent scratch exact enough =
    let g = sheet_grid bytes in
    rw (
      eq-eqb _ _ exact,
      eq-eqb _ _ (length-replicate (tensor_length g) plus_zero),
      le-ltb (length scratch) (scratch_length g) enough,
      le-ltb (length (zeros (scratch_length g))) (scratch_length g) (omega (arith, length-replicate (scratch_length g) plus_zero)),
    )

module _ (bytes : List ℕ) (knots samples lent scratch : List Float)
    (enough : Enough (length knots) (length samples) (length lent) (length scratch)) where
  pub reading_is : reading_refusal bytes knots samples lent scratch ≡ sheet_refusal bytes
  unfolding reading_refusal read_refusal
  reading_is = rw (eq-eqb _ _ enough.tensor, eq-eqb _ _ enough.knots, eq-eqb _ _ enough.samples)

  pub building_is : sheet_refusal bytes ≡ 0 → parts_refusal (sheet_grid bytes) (sheet_samples bytes) lent scratch ≡ building_refusal bytes
  building_is none =
      let small = ltb-false 4096 (tensor_length (sheet_grid bytes)) (parts bytes none).tensor in
      lent_build bytes (take (tensor_length (sheet_grid bytes)) lent) scratch
      (rw length-take (omega (arith, enough.tensor)))
      (omega (arith, enough.scratch))

  pub refusal_is : sheet_tensor_refusal bytes knots samples lent scratch ≡ own_refusal bytes
  unfolding sheet_tensor_refusal own_refusal
  refusal_is = rw reading_is (go (sheet_refusal bytes) refl)
    where
      go : (number : ℕ) → sheet_refusal bytes ≡ number
          → or_else (sheet_refusal bytes) (parts_refusal (sheet_grid bytes) (sheet_samples bytes) lent scratch)
          ≡ or_else (sheet_refusal bytes) (building_refusal bytes)
      go zero e = rw (e, building_is e)
      go (suc number) e = rw e
