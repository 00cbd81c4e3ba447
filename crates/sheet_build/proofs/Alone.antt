-- A call that is lent enough answers what the sheet's bytes alone decide: its own refusal, its axes, and its tensor.
use mathlib.Core.Path.{◌≡◌, refl, sym, ap, ◌∙◌}
use mathlib.Core.List.{List}
use Prim.Native.Nat.{ℕ, zero, suc, ◌≤◌}
use native.Mathlib.Omega.{arith}
use borrow.Author.Tests.{ltb-false}
use lib.ListN.{length, take}
use lib.Ieee.{Float}
use Rattle.rules.specs.Sizes.{Grid, tensor_length}
use Rattle.rules.specs.Tensor.{tensor}
use Rattle.rules.proofs.Refused.{or_else_passed}
use Rattle.grid_checks.proofs.Rows.{axes_few}
use Rattle.sheet_read.specs.Fields.{edition, axes, sheet_grid, sheet_samples}
use Rattle.sheet_read.specs.Faults.{sheet_refusal}
use Rattle.sheet_read.specs.Read.{over}
use Rattle.sheet_read.proofs.Parts.{parts, take_over}
use Rattle.sheet_build.specs.SheetTensor.{answer_of, own_refusal, SheetPromise, SheetAnswer}
use Rattle.sheet_build.specs.LentEnough.{Enough}
use Rattle.sheet_build.proofs.Builds.{answered_refusal, length_tensor}
use Rattle.sheet_build.proofs.Enough.{reading_is, refusal_is}

module _ (bytes : List ℕ) where
  abbrev g : Grid
  g = sheet_grid bytes

  abbrev y : List Float
  y = sheet_samples bytes

  -- a sheet whose refusal is 0 was read
  pub read_alone : own_refusal bytes ≡ 0 → sheet_refusal bytes ≡ 0
  unfolding own_refusal
  read_alone none = (or_else_passed (sheet_refusal bytes) _ none).0

  -- a sheet that is read has no tensor that is too long
  pub few_numbers : sheet_refusal bytes ≡ 0 → tensor_length g ≤ 4096
  few_numbers none = ltb-false 4096 (tensor_length g) (parts bytes none).tensor

  module _
      (knots samples lent scratch : List Float) (enough : Enough (length knots) (length samples) (length lent) (length scratch))
      (given : SheetAnswer) (k s t w : List Float) (p : SheetPromise bytes knots samples lent scratch given k s t w)
    where
      answer_alone : given ≡ answer_of (sheet_refusal bytes) (own_refusal bytes) (edition bytes) g
      answer_alone =
          rw (reading_is bytes knots samples lent scratch enough, refusal_is bytes knots samples lent scratch enough) at p.answer

      pub answered_alone : given.refusal ≡ own_refusal bytes
      answered_alone =
          ap (λ (a : SheetAnswer). a.refusal) answer_alone ∙ answered_refusal (sheet_refusal bytes) (own_refusal bytes) (edition bytes) g

      -- an accepted sheet
      module _ (none : own_refusal bytes ≡ 0) where
        accepted_answer : given ≡ answer_of 0 0 (edition bytes) g
        accepted_answer = rw (read_alone none, none) at answer_alone

        pub axes_alone : given.axes ≡ axes bytes
        unfolding sheet_grid
        axes_alone = ap (λ (a : SheetAnswer). a.axes) accepted_answer

        pub tensor_alone : take given.length t ≡ tensor g y
        tensor_alone =
            let n : given.length ≡ tensor_length g = ap (λ (a : SheetAnswer). a.length) accepted_answer in
            let stand : t ≡ over (tensor g y) lent = rw (refusal_is bytes knots samples lent scratch enough ∙ none) at p.output in
            rw stand (take_over (tensor g y) lent given.length (length_tensor g y ∙ sym n))

      -- a refused one has no tensor
      pub nothing_alone : (own_refusal bytes ≡ 0 → ⊥) → given.length ≡ 0
      nothing_alone met = go (sheet_refusal bytes) (own_refusal bytes) refl refl
        where
          go : (reading refusal : ℕ) → sheet_refusal bytes ≡ reading → own_refusal bytes ≡ refusal → given.length ≡ 0
          go reading zero e f = absurd (met f)
          go zero (suc refusal) e f = ap (λ (a : SheetAnswer). a.length) (rw (e, f) at answer_alone)
          go (suc reading) (suc refusal) e f = ap (λ (a : SheetAnswer). a.length) (rw (e, f) at answer_alone)

      pub axes_most : given.axes ≤ 4
      unfolding sheet_grid
      axes_most = go (sheet_refusal bytes) refl
        where
          go : (reading : ℕ) → sheet_refusal bytes ≡ reading → given.axes ≤ 4
          go zero e =
              let known : given.axes ≡ axes bytes = ap (λ (a : SheetAnswer). a.axes) (rw e at answer_alone) in
              let few = axes_few {axes = axes bytes} (parts bytes e).axes in omega (arith, few.1)
          go (suc reading) e = let known : given.axes ≡ 0 = ap (λ (a : SheetAnswer). a.axes) (rw e at answer_alone) in omega arith
