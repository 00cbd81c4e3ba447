-- The same of a sheet: its knots and its samples stand in the first places of their buffers, so its grid and its samples are built.
use mathlib.Core.Path.{◌≡◌, sym, ◌∙◌}
use mathlib.Core.Bool.{false}
use mathlib.Core.List.{List}
use Prim.Native.Nat.{ℕ, ◌-◌, ◌≤◌}
use native.Mathlib.Nat.{sub-zero}
use native.Mathlib.Omega.{arith}
use lib.ListN.{length, take, length-append, length-replicate}
use lib.Ieee.{Float}
use Rattle.rules.specs.Numbers.{plus_zero, zeros}
use Rattle.rules.specs.Sizes.{Grid, points, knots_length, samples_length, tensor_length, scratch_length}
use Rattle.rules.specs.Refusals.{outcome_refused}
use Rattle.rules.specs.Tensor.{tensor}
use Rattle.rules.specs.declared.Axis.{Axis}
use Rattle.rules.proofs.Cases.{passed}
use Rattle.rules.proofs.Refused.{or_else_passed}
use Rattle.grid_checks.specs.Check.{build_check}
use Rattle.grid_checks.proofs.Rows.{axes_few, in_range}
use Rattle.grid_checks.proofs.ThenOutcome.{build_outcome}
use Rattle.grid.specs.GridOfCall.{grid, sizes_of, points_of, InRange}
use Rattle.sheet_read.specs.Fields.{axes, knots_below, sheet_grid, sheet_samples}
use Rattle.sheet_read.specs.Read.{over}
use Rattle.sheet_read.specs.FoundSoFar.{PartsRoom}
use Rattle.sheet_read.proofs.Parts.{Parts, parts, take_over}
use Rattle.sheet_build.specs.SheetTensor.{building_refusal}
use Rattle.sheet_build.proofs.Enough.{lent_build}
use Rattle.sheet_in_scratch.specs.InScratch.{InScratch, SheetInScratch}

-- a sheet that the build accepts has a tensor of finite numbers
pub tensor_finite : (bytes : List ℕ) → building_refusal bytes ≡ 0
    → outcome_refused (tensor (sheet_grid bytes) (sheet_samples bytes)) ≡ false
unfolding building_refusal
tensor_finite bytes none =
    let g = sheet_grid bytes in
    let t = build_outcome g (sheet_samples bytes) (zeros (tensor_length g)) (zeros (scratch_length g)) in
    let both = or_else_passed (build_check g (sheet_samples bytes) (length (zeros (tensor_length g))) (length (zeros (scratch_length g)))) _
    (sym t.is ∙ none) in
    (passed (outcome_refused (tensor g (sheet_samples bytes))) 9 0 both.1).0

module _ (bytes : List ℕ) (said n : ℕ) (all : List Axis) (knots_lent samples_lent : List Float)
    (s : PartsRoom bytes said n all knots_lent samples_lent) where
  abbrev g : Grid
  g = sheet_grid bytes

  has : Parts bytes
  has = parts bytes s.faultless

  own_range : InRange g.axes (points g)
  own_range = let few = axes_few {axes = g.axes} has.axes in in_range few.0 few.1 has.points

  pub range : InRange n (points_of all)
  unfolding sheet_grid
  range = rw (s.axes_said, s.found) own_range

  pub knots_are : knots_length (sizes_of n all) ≡ knots_length g
  unfolding sheet_grid
  knots_are = rw (s.axes_said, s.found)

  pub samples_are : samples_length (sizes_of n all) ≡ samples_length g
  unfolding sheet_grid
  samples_are = rw (s.axes_said, s.found)

  pub tensor_is : tensor_length (sizes_of n all) ≡ tensor_length g
  unfolding sheet_grid
  tensor_is = rw (s.axes_said, s.found)

  grid_is : grid n all g.flat_knots ≡ g
  unfolding sheet_grid
  grid_is = rw (s.axes_said, s.found)

  -- the first knots of their buffer are the sheet's
  module _ (knots : List Float) (stand : knots ≡ over g.flat_knots knots_lent) (end : ℕ) (e : end ≡ knots_length (sizes_of n all)) where
    pub knots_within : end ≤ length knots
    knots_within = rw (stand, length-append) (omega (arith, knots_are, has.knots))

    pub knots_taken : take (end - 0) knots ≡ g.flat_knots
    knots_taken = rw (sub-zero end, e, knots_are, stand) (take_over g.flat_knots knots_lent (knots_length g) has.knots)

  module _ (knots samples : List Float) (k : knots ≡ over (knots_below bytes (axes bytes)) knots_lent)
      (y : samples ≡ over (sheet_samples bytes) samples_lent) where
    pub knots_over : knots ≡ over g.flat_knots knots_lent
    unfolding sheet_grid
    knots_over = k

    pub samples_within : (end : ℕ) → end ≡ samples_length (sizes_of n all) → end ≤ length samples
    samples_within end e = rw (y, length-append) (omega (arith, samples_are, has.samples))

    samples_taken : (end : ℕ) → end ≡ samples_length (sizes_of n all) → take (end - 0) samples ≡ sheet_samples bytes
    samples_taken end e =
        rw (sub-zero end, e, samples_are, y) (take_over (sheet_samples bytes) samples_lent (samples_length g) has.samples)

    pub sheet_stands : (knots_end samples_end numbers r : ℕ) (scratch later : List Float)
        → knots_end ≡ knots_length (sizes_of n all) → samples_end ≡ samples_length (sizes_of n all)
        → numbers ≡ tensor_length (sizes_of n all) → scratch_length g ≤ length scratch
        → InScratch (grid n all (take (knots_end - 0) knots)) (take (samples_end - 0) samples) numbers scratch r later
        → SheetInScratch bytes knots_lent r knots later
    sheet_stands knots_end samples_end numbers r scratch later a b t enough stands =
        let count : numbers ≡ tensor_length g = t ∙ tensor_is in
        let p : InScratch g (sheet_samples bytes) (tensor_length g) scratch r later =
        rw (knots_taken knots knots_over knots_end a, grid_is, samples_taken samples_end b, count) at stands in
        record {
          refused = p.answer ∙ lent_build bytes (zeros (tensor_length g)) scratch (length-replicate (tensor_length g) plus_zero) enough;
          knots = knots_over;
          output = p.output;
        }
