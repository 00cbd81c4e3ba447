-- The promise of the whole call, for each way that it ends, and what an accepted sheet gives the build.
use mathlib.Core.Path.{◌≡◌, refl, sym, ap, ◌∙◌}
use mathlib.Core.Bool.{false}
use mathlib.Core.List.{List}
use Prim.Native.Nat.{ℕ, zero, suc, ◌≤◌}
use native.Mathlib.Omega.{arith}
use borrow.Author.Tests.{eq-eqb, ne_eqb, ltb-false}
use lib.ListN.{length, take, length-append}
use lib.Ieee.{Float}
use Rattle.rules.specs.Sizes.{Grid, knots_length, samples_length, tensor_length}
use Rattle.rules.specs.Refusals.{length_refused}
use Rattle.rules.specs.Calls.{stored, scratch_after}
use Rattle.rules.proofs.Refused.{or_else_met, unchanged}
use Rattle.grid_checks.proofs.Rows.{axes_few, in_range, exact}
use Rattle.grid_codes.specs.Classes.{class, unread}
use Rattle.grid_codes.proofs.Classed.{read_none}
use Rattle.sheet_read.specs.Fields.{edition, sheet_grid, sheet_samples}
use Rattle.sheet_read.specs.Faults.{sheet_refusal}
use Rattle.sheet_read.specs.Read.{over, read_refusal, ReadPromise, ReadAnswer}
use Rattle.sheet_read.proofs.Parts.{Parts, parts, take_over}
use Rattle.sheet_read.proofs.Promises.{answer_refusal, lengths_passed}
use Rattle.rules.proofs.Cases.{passed as no_test}
use Rattle.sheet_build.specs.SheetTensor.{
  unread_answer,
  answer_of,
  PartsGiven,
  grid_in,
  samples_in,
  parts_refusal,
  PartsPromise,
  reading_refusal,
  sheet_tensor_refusal,
  SheetPromise,
  SheetAnswer,
}
use Rattle.sheet_build.proofs.Faults.{reading_of_reading, not_ten}
use Rattle.sheet_build.proofs.Builds.{unread_is}

-- ---- what comes before the build

ten_alone : (refusal : ℕ) (scratch : List Float) → (refusal ≡ 0 → ⊥) → (refusal ≡ 10 → ⊥) → scratch ≡ scratch_after refusal scratch
ten_alone refusal scratch met other = rw (ne_eqb refusal 0 met, ne_eqb refusal 10 other)

module _ (bytes : List ℕ) (knots samples lent scratch : List Float) where
  abbrev g : Grid
  g = sheet_grid bytes

  abbrev y : List Float
  y = sheet_samples bytes

  abbrev reading : ℕ
  reading = reading_refusal bytes knots samples lent scratch

  abbrev refusal : ℕ
  refusal = sheet_tensor_refusal bytes knots samples lent scratch

  pub refusal_met : (reading ≡ 0 → ⊥) → refusal ≡ reading
  unfolding sheet_tensor_refusal
  refusal_met met = or_else_met reading _ met

  pub refusal_passed : reading ≡ 0 → refusal ≡ parts_refusal g y lent scratch
  unfolding sheet_tensor_refusal
  refusal_passed none = rw none

  -- no refusal before the build: the tensor's buffer is long enough, and the sheet has no fault
  pub read_passed : reading ≡ 0 → (length lent ≡ 4096) × (sheet_refusal bytes ≡ 0)
  unfolding reading_refusal
  read_passed none =
      let both = no_test (length_refused (length lent) 4096) 3 (read_refusal bytes knots samples) none in
      (exact (length lent) 4096 both.0, lengths_passed bytes knots samples both.1)

  -- a refusal before the build: the answer says so, and tensor and scratch are as they were
  reading_refused :
      (given : SheetAnswer) (knots_later samples_later : List Float) → (reading ≡ 0 → ⊥) → given ≡ unread_answer reading
      → knots_later ≡ stored reading knots (over g.flat_knots knots)
      → samples_later ≡ stored reading samples (over y samples)
      → SheetPromise bytes knots samples lent scratch given knots_later samples_later lent scratch
  reading_refused given knots_later samples_later met e k s = record {
    answer = rw (refusal_met met) (e ∙ unread_is reading reading (edition bytes) g met);
    knots = k;
    samples = s;
    output = rw (refusal_met met) (unchanged reading lent _ met);
    scratch =
        rw (refusal_met met) (ten_alone reading scratch met (not_ten reading (reading_of_reading bytes knots samples lent scratch) met));
  }

  -- 4 for the tensor's buffer
  tensor_length_met : (length lent ≡ 4096 → ⊥) → reading ≡ 4
  unfolding reading_refusal
  tensor_length_met other = rw (ne_eqb (length lent) 4096 other)

  pub buffer_refused : (given : SheetAnswer) → (length lent ≡ 4096 → ⊥) → given ≡ unread_answer 4
      → SheetPromise bytes knots samples lent scratch given knots samples lent scratch
  buffer_refused given other e =
      let is = tensor_length_met other in
      let met : reading ≡ 0 → ⊥ = λ z. omega arith in
      reading_refused given knots samples met (rw is e) (unchanged reading knots _ met) (unchanged reading samples _ met)

  -- what the reader answered
  module _ (long : length lent ≡ 4096) (a : ReadAnswer) (k s : List Float) (read : ReadPromise bytes knots samples a k s) where
    reading_is : reading ≡ read_refusal bytes knots samples
    unfolding reading_refusal
    reading_is = rw (eq-eqb (length lent) 4096 long)

    answered : a.refusal ≡ reading
    answered = ap (λ (r : ReadAnswer). r.refusal) read.answer ∙ answer_refusal _ _ _ _ ∙ sym reading_is

    knots_are : k ≡ stored reading knots (over g.flat_knots knots)
    unfolding sheet_grid
    knots_are = rw reading_is read.knots

    samples_are : s ≡ stored reading samples (over y samples)
    samples_are = rw reading_is read.samples

    pub sheet_refused : (given : SheetAnswer) → (a.refusal ≡ 0 → ⊥) → given ≡ unread_answer a.refusal
        → SheetPromise bytes knots samples lent scratch given k s lent scratch
    sheet_refused given met e =
        reading_refused given k s (λ z. met (answered ∙ z)) (rw answered at e) knots_are samples_are

    -- a sheet that was read
    pub reader_passed : unread (class a.refusal) ≡ false → a.refusal ≡ 0
    reader_passed told = read_none a.refusal answered (reading_of_reading bytes knots samples lent scratch) told

    -- an accepted sheet: its parts stand in the buffers
    module _ (none : a.refusal ≡ 0) where
      pub passed : reading ≡ 0
      passed = sym answered ∙ none

      accepted : sheet_refusal bytes ≡ 0
      accepted = lengths_passed bytes knots samples (sym reading_is ∙ passed)

      known : Parts bytes
      known = parts bytes accepted

      edition_is : a.edition ≡ edition bytes
      edition_is = ap (λ (r : ReadAnswer). r.edition) (rw (sym reading_is ∙ passed) at read.answer)

      axes_are : a.axes ≡ g.axes
      unfolding sheet_grid
      axes_are = ap (λ (r : ReadAnswer). r.axes) (rw (sym reading_is ∙ passed) at read.answer)

      all_are : a.all ≡ g.entries
      unfolding sheet_grid
      all_are = ap (λ (r : ReadAnswer). r.all) (rw (sym reading_is ∙ passed) at read.answer)

      knots_stand : k ≡ over g.flat_knots knots
      knots_stand = rw passed at knots_are

      samples_stand : s ≡ over y samples
      samples_stand = rw passed at samples_are

      pub parts_given : PartsGiven a.axes a.all k s lent
      parts_given =
          let few = axes_few {axes = g.axes} known.axes in
          rw (axes_are, all_are, knots_stand, samples_stand) (record {
            in_range = in_range few.0 few.1 known.points;
            knots_room = rw length-append (omega (arith, known.knots));
            samples_room = rw length-append (omega (arith, known.samples));
            tensor_room = rw long (ltb-false 4096 (tensor_length g) known.tensor);
          })

      grid_is : grid_in a.axes a.all k ≡ g
      unfolding sheet_grid
      grid_is =
          let stand : take (knots_length g) k ≡ g.flat_knots =
          rw knots_stand (take_over g.flat_knots knots (knots_length g) known.knots) in
          rw (axes_are, all_are, stand)

      samples_is : samples_in a.axes a.all s ≡ y
      samples_is = rw (axes_are, all_are, samples_stand) (take_over y samples (samples_length g) known.samples)

      pub sheet_built : (given : SheetAnswer) (tensor_later scratch_later : List Float)
          → PartsPromise (grid_in a.axes a.all k) (samples_in a.axes a.all s) lent scratch a.edition given tensor_later
          scratch_later
          → SheetPromise bytes knots samples lent scratch given k s tensor_later scratch_later
      sheet_built given tensor_later scratch_later built =
          let p : PartsPromise g y lent scratch (edition bytes) given tensor_later scratch_later =
          rw (grid_is, samples_is, edition_is) at built in
          record {
            answer = rw (passed, refusal_passed passed) p.answer;
            knots = knots_are;
            samples = samples_are;
            output = rw (refusal_passed passed) p.output;
            scratch = rw (refusal_passed passed) p.scratch;
          }

-- ---- what a caller knows of the answer

short_answer : (reading refusal edition : ℕ) (g : Grid) (most : ℕ) → (reading ≡ 0 → tensor_length g ≤ most)
    → (answer_of reading refusal edition g).length ≤ most
short_answer zero zero edition g most small = small refl
short_answer zero (suc refusal) edition g most small = omega arith
short_answer (suc reading) refusal edition g most small = omega arith

module _ (bytes : List ℕ) (knots samples lent scratch : List Float) (given : SheetAnswer) (k s t w : List Float) where
  -- the tensor has no more numbers than its buffer has places
  pub length_most : SheetPromise bytes knots samples lent scratch given k s t w → given.length ≤ 4096
  length_most p =
      rw p.answer
      (short_answer (reading_refusal bytes knots samples lent scratch) (sheet_tensor_refusal bytes knots samples lent scratch)
      (edition bytes) (sheet_grid bytes) 4096
      (λ e. ltb-false 4096 (tensor_length (sheet_grid bytes)) (parts bytes (read_passed bytes knots samples lent scratch e).1).tensor))
