-- Demand 3 of a tensor that `tensor_of_sheet` made, from its promise alone: what a caller finds in the answer and in the buffers is an
-- accepted build, so the four statements hold of it.
use mathlib.Core.Path.{◌≡◌, sym, ap, ◌∙◌}
use mathlib.Core.List.{List}
use Prim.Native.Nat.{ℕ}
use lib.ListN.{take}
use lib.Ieee.{Float}
use Rattle.rules.specs.Sizes.{Grid, knots_length, samples_length, tensor_length}
use Rattle.rules.specs.Tensor.{tensor}
use Rattle.rules.specs.Calls.{BuildPromise}
use Rattle.rules.proofs.Refused.{or_else_passed}
use Rattle.tensor.proofs.Demand3.{
  BitsOfFreshBuild,
  RefusalOfFreshBuild,
  BitsKeptElsewhere,
  has_bits_of_fresh_build,
  refused_as_fresh_build,
  keeps_bits_elsewhere,
}
use Rattle.sheet_read.specs.Fields.{edition, sheet_grid, sheet_samples}
use Rattle.sheet_read.specs.Read.{over}
use Rattle.sheet_read.proofs.Parts.{Parts, parts, take_over}
use Rattle.sheet_build.specs.SheetTensor.{
  read_answer,
  grid_in,
  samples_in,
  parts_refusal,
  reading_refusal,
  sheet_tensor_refusal,
  SheetPromise,
  SheetAnswer,
}
use Rattle.sheet_build.proofs.Builds.{answered_refusal, length_tensor}
use Rattle.sheet_build.proofs.Promises.{read_passed}

-- what a caller finds: the grid and the samples that were read, and the tensor that was made of them
abbrev pub grid_made : SheetAnswer → List Float → Grid
grid_made given k = grid_in given.axes given.all k

abbrev pub samples_made : SheetAnswer → List Float → List Float
samples_made given s = samples_in given.axes given.all s

abbrev pub tensor_made : SheetAnswer → List Float → List Float
tensor_made given t = take given.length t

module _
    (bytes : List ℕ) (knots samples lent scratch : List Float) (given : SheetAnswer) (k s t w : List Float)
    (p : SheetPromise bytes knots samples lent scratch given k s t w) (none : given.refusal ≡ 0)
  where
    abbrev g : Grid
    g = sheet_grid bytes

    abbrev y : List Float
    y = sheet_samples bytes

    abbrev reading : ℕ
    reading = reading_refusal bytes knots samples lent scratch

    abbrev refusal : ℕ
    refusal = sheet_tensor_refusal bytes knots samples lent scratch

    refusal_none : refusal ≡ 0
    refusal_none = sym (ap (λ (a : SheetAnswer). a.refusal) p.answer ∙ answered_refusal reading refusal (edition bytes) g) ∙ none

    both_none : (reading ≡ 0) × (parts_refusal g y lent scratch ≡ 0)
    unfolding sheet_tensor_refusal
    both_none = or_else_passed reading (parts_refusal g y lent scratch) refusal_none

    pub answer_is : given ≡ read_answer 0 (edition bytes) g
    answer_is = rw (both_none.0, refusal_none) at p.answer

    known : Parts bytes
    known = parts bytes (read_passed bytes knots samples lent scratch both_none.0).1

    pub grid_is : grid_made given k ≡ g
    unfolding sheet_grid
    grid_is =
        let stand : k ≡ over g.flat_knots knots = rw both_none.0 at p.knots in
        let front : take (knots_length g) k ≡ g.flat_knots = rw stand (take_over g.flat_knots knots (knots_length g) known.knots) in
        rw (answer_is, front)

    samples_are : samples_made given s ≡ y
    samples_are =
        let stand : s ≡ over y samples = rw both_none.0 at p.samples in
        rw (answer_is, stand) (take_over y samples (samples_length g) known.samples)

    pub tensor_is : tensor_made given t ≡ tensor g y
    tensor_is =
        let stand : t ≡ over (tensor g y) lent = rw refusal_none at p.output in
        rw (answer_is, stand) (take_over (tensor g y) lent (tensor_length g) (length_tensor g y))

    pub sheet_is_built : BuildPromise (grid_made given k) (samples_made given s) (take given.length lent) scratch 0 (tensor_made given t)
        w
    unfolding sheet_tensor_refusal
    sheet_is_built =
        let room : take given.length lent ≡ take (tensor_length g) lent = rw answer_is in
        rw (grid_is, samples_are, room, tensor_is)
        (record {
          answer = sym both_none.1;
          output = rw both_none.1;
          scratch = rw both_none.0 at p.scratch;
        })

    -- ---- the statements; the fourth, `counts_its_lanes`, is about any tensor, and so about this one

    pub sheet_has_bits_of_fresh_build : BitsOfFreshBuild (grid_made given k) (samples_made given s) (tensor_made given t)
    sheet_has_bits_of_fresh_build = has_bits_of_fresh_build _ _ _ _ _ _ sheet_is_built

    pub sheet_refused_as_fresh_build : RefusalOfFreshBuild (grid_made given k) (samples_made given s) (tensor_made given t)
    sheet_refused_as_fresh_build = refused_as_fresh_build _ _ _ _ _ _ sheet_is_built

    pub sheet_keeps_bits_elsewhere : BitsKeptElsewhere (grid_made given k) (tensor_made given t)
    sheet_keeps_bits_elsewhere = keeps_bits_elsewhere _ _ _ _ _ _ sheet_is_built
