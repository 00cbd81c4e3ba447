-- What the class of the call's refusal says of the answer and the buffers: after Reading nothing of the sheet shows, after Building the
-- answer has its axes and its parts stand in the buffers. And what the call gives is of that class (`SheetGiven`).
use mathlib.Core.Path.{◌≡◌, refl, sym, ap, ◌∙◌}
use mathlib.Core.Bool.{Bool, true, false, ◌||◌, false≢true}
use mathlib.Core.List.{List}
use Prim.Native.Nat.{ℕ, zero, suc}
use native.Mathlib.Omega.{arith}
use borrow.Author.Tests.{eq-eqb, ltb-false}
use lib.ListN.{length, take, length-take}
use lib.Ieee.{Float}
use Rattle.rules.specs.Sizes.{Grid, tensor_length, scratch_length}
use Rattle.std.specs.Prelude.{Result, Ok, Err}
use Rattle.rules.specs.Refusals.{
  scratch_refused,
  some_number_refused,
  some_ends_refused,
  some_knots_refused,
  some_fewness_refused,
  outcome_refused,
}
use Rattle.rules.specs.Tensor.{tensor}
use Rattle.rules.specs.Calls.{build_refusal}
use Rattle.rules.specs.Answers.{number_of}
use Rattle.rules.proofs.Given.{number_some}
use Rattle.rules.proofs.Refused.{unchanged}
use Rattle.grid_codes.specs.Classes.{class, unread}
use Rattle.grid_codes.specs.declared.classes.Class.{Class}
use Rattle.grid_codes.specs.declared.classes.Class.TheVariants.{None, Reading, Building, Writing, Unknown}
use Rattle.grid_codes.proofs.Apart.{none_not_reading, reading_not_building, none_not_building}
use Rattle.grid_codes.proofs.Tested.{tested}
use Rattle.grid_codes.proofs.Classed.{Of, no_fault}
use Rattle.sheet_read.specs.Fields.{edition, sheet_grid, sheet_samples}
use Rattle.sheet_read.specs.Read.{over}
use Rattle.sheet_read.proofs.Parts.{parts}
use Rattle.sheet_build.specs.SheetTensor.{
  unread_answer,
  read_answer,
  sheet_told,
  SheetGiven,
  of_read,
  parts_refusal,
  reading_refusal,
  sheet_tensor_refusal,
  SheetPromise,
  SheetAnswer,
}
use Rattle.sheet_build.specs.declared.BuiltSheet.{BuiltSheet}
use Rattle.sheet_build.specs.declared.SheetRefusal.{SheetRefusal}
use Rattle.sheet_build.specs.declared.SheetRefusal.TheVariants.{Unread, Unbuilt}
use Rattle.sheet_build.proofs.Faults.{reading_of_reading}
use Rattle.sheet_build.proofs.Builds.{unread_is, answered_refusal}
use Rattle.sheet_build.proofs.Promises.{refusal_met, refusal_passed, read_passed}

-- 4 for the tensor's buffer, before the sheet is looked at
pub four_of_reading : class 4 ≡ Reading
unfolding class
four_of_reading = refl

-- what is not read is of the class Reading
pub unread_of_reading : (given : Class) → unread given ≡ true → given ≡ Reading
unread_of_reading None told = absurd (false≢true told)
unread_of_reading Reading told = refl
unread_of_reading Building told = absurd (false≢true told)
unread_of_reading Writing told = absurd (false≢true told)
unread_of_reading Unknown told = absurd (false≢true told)

module _ (bytes : List ℕ) (knots samples lent scratch : List Float) where
  abbrev g : Grid
  g = sheet_grid bytes

  abbrev y : List Float
  y = sheet_samples bytes

  abbrev reading : ℕ
  reading = reading_refusal bytes knots samples lent scratch

  abbrev refusal : ℕ
  refusal = sheet_tensor_refusal bytes knots samples lent scratch

  -- the reader refuses
  reading_class : (reading ≡ 0 → ⊥) → class refusal ≡ Reading
  reading_class met = ap class (refusal_met bytes knots samples lent scratch met) ∙ reading_of_reading bytes knots samples lent scratch met

  -- it does not: the build has nothing to refuse in the sizes and lengths of what was read
  build_of_building : reading ≡ 0 → Of Building (parts_refusal g y lent scratch)
  unfolding build_refusal class
  build_of_building none =
      let long = (read_passed bytes knots samples lent scratch none).0 in
      let known = parts bytes (read_passed bytes knots samples lent scratch none).1 in
      let small = ltb-false 4096 (tensor_length g) known.tensor in
      let part : length (take (tensor_length g) lent) ≡ tensor_length g = rw length-take (omega arith) in
      rw (known.axes, known.points, known.tensor, eq-eqb _ _ known.knots, eq-eqb _ _ known.samples, eq-eqb _ _ part)
      (tested (Of Building) (scratch_refused (length scratch) (scratch_length g)) (λ met. refl)
      (tested (Of Building) (some_number_refused g.flat_knots || some_ends_refused g || some_number_refused y) (λ met. refl)
      (tested (Of Building) (some_knots_refused g) (λ met. refl)
      (tested (Of Building) (some_fewness_refused g) (λ met. refl)
      (tested (Of Building) (outcome_refused (tensor g y)) (λ met. refl) no_fault)))))

  building_class : reading ≡ 0 → (refusal ≡ 0 → ⊥) → class refusal ≡ Building
  building_class none met =
      let is = refusal_passed bytes knots samples lent scratch none in
      ap class is ∙ build_of_building none (λ z. met (is ∙ z))

  -- so the class tells whether the sheet was read
  not_read : class refusal ≡ Reading → reading ≡ 0 → ⊥
  unfolding class
  not_read c none = go refusal refl
    where
      go : (number : ℕ) → refusal ≡ number → ⊥
      go zero e = none_not_reading (sym (ap class e) ∙ c)
      go (suc number) e = reading_not_building (sym c ∙ building_class none (λ z. omega (arith, e, z)))

  was_read : class refusal ≡ Building → reading ≡ 0
  was_read c = go reading refl
    where
      go : (number : ℕ) → reading ≡ number → reading ≡ 0
      go zero e = e
      go (suc number) e = absurd (reading_not_building (sym (reading_class (λ z. omega (arith, e, z))) ∙ c))

  module _ (given : SheetAnswer) (k s t w : List Float) (p : SheetPromise bytes knots samples lent scratch given k s t w) where
    class_is : class given.refusal ≡ class refusal
    class_is = ap (λ (a : SheetAnswer). class a.refusal) p.answer ∙ ap class (answered_refusal reading refusal (edition bytes) g)

    pub shows_nothing : class given.refusal ≡ Reading → (given ≡ unread_answer refusal) × (k ≡ knots) × (s ≡ samples)
    shows_nothing c =
        let met = not_read (sym class_is ∙ c) in (
          p.answer ∙ sym (unread_is reading refusal (edition bytes) g met),
          p.knots ∙ sym (unchanged reading knots _ met),
          p.samples ∙ sym (unchanged reading samples _ met),
        )

    pub parts_stand : class given.refusal ≡ Building
        → (given ≡ read_answer refusal (edition bytes) g) × (k ≡ over g.flat_knots knots) × (s ≡ over y samples)
    parts_stand c =
        let none = was_read (sym class_is ∙ c) in
        (rw none at p.answer, rw none at p.knots, rw none at p.samples)

    -- and there is no tensor
    pub nothing_built : class given.refusal ≡ Building → (given.length ≡ 0) × (t ≡ lent)
    unfolding class
    nothing_built c = go refusal refl
      where
        go : (number : ℕ) → refusal ≡ number → (given.length ≡ 0) × (t ≡ lent)
        go zero e = absurd (none_not_building (sym (ap class e) ∙ sym class_is ∙ c))
        go (suc number) e = (ap (λ (a : SheetAnswer). a.length) (parts_stand c).0 ∙ rw e, rw e at p.output)

  -- what is given of a sheet that was read
  pub given_of_read : (given : Result BuiltSheet SheetRefusal) (k s t w : List Float) → reading ≡ 0 → of_read given ≡ true
      → SheetPromise bytes knots samples lent scratch (sheet_told given) k s t w → SheetGiven given
  given_of_read (Ok built) k s t w none read p = tt
  given_of_read (Err (Unread met)) k s t w none read p = absurd (false≢true read)
  given_of_read (Err (Unbuilt met sheet)) k s t w none read p =
      let is : number_of met ≡ refusal =
      ap (λ (a : SheetAnswer). a.refusal) p.answer ∙ answered_refusal reading refusal (edition bytes) g in
      ap class is ∙ building_class none (λ z. number_some met (is ∙ z))
