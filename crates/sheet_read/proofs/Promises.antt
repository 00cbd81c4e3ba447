-- The answers that the reader gives, and its promise for each way that it ends.
use mathlib.Core.Path.{◌≡◌, refl, sym, ap, ◌∙◌}
use mathlib.Core.List.{List, ◌++◌}
use Prim.Native.Nat.{ℕ, zero, suc, ◌-◌, ◌*◌, ◌≤◌}
use native.Mathlib.Omega.{arith}
use borrow.Author.Tests.{eq-eqb, ne_eqb}
use lib.ListN.{length, take, drop, length-take}
use lib.Ieee.{Float}
use Rattle.rules.proofs.Tables.{length_table}
use Rattle.rules.proofs.Refused.{unchanged}
use Rattle.rules.specs.Calls.{or_else}
use Rattle.rules.specs.Sizes.{samples_length}
use Rattle.rules.specs.declared.Axis.{Axis}
use Rattle.base_bits.specs.Bits.{numbers}
use Rattle.rules.proofs.Cases.{passed}
use Rattle.sheet_read.specs.Fields.{edition, axes, entries, knots_below, sheet_grid, samples_begin, sheet_samples}
use Rattle.sheet_read.specs.Faults.{sheet_refusal}
use Rattle.sheet_read.specs.Read.{refused_answer, answer_of, over, buffers_refused, read_refusal, ReadPromise, ReadAnswer}
use Rattle.base_bits.specs.BitsThere.{Within}
use Rattle.sheet_read.proofs.Extents.{begin_most}
use Rattle.sheet_read.proofs.Sheets.{Accepted, samples_room, samples_most}

-- ---- answers

pub refused_is : (refusal edition n : ℕ) (all : List Axis) → (refusal ≡ 0 → ⊥) → refused_answer refusal ≡ answer_of refusal edition n all
refused_is zero edition n all met = absurd (met refl)
refused_is (suc refusal) edition n all met = refl

-- a fault of the first part, of the second, and of neither
pub first_refused : (first later edition n : ℕ) (all : List Axis) (r : ℕ) → r ≡ first → (r ≡ 0 → ⊥)
    → refused_answer r ≡ answer_of (or_else first later) edition n all
first_refused zero later edition n all r e met = absurd (met e)
first_refused (suc first) later edition n all r e met = rw e

pub later_refused : (first later edition n : ℕ) (all : List Axis) (r : ℕ) → first ≡ 0 → r ≡ later → (r ≡ 0 → ⊥)
    → refused_answer r ≡ answer_of (or_else first later) edition n all
later_refused first later edition n all r z e met = rw (z, ← e) (refused_is r edition n all met)

pub both_passed : (first later edition n : ℕ) (all found : List Axis) → first ≡ 0 → later ≡ 0 → found ≡ all
    → ◌≡◌ {A = ReadAnswer} (record { refusal = 0; edition = edition; axes = n; all = found })
    (answer_of (or_else first later) edition n all)
both_passed first later edition n all found z w e = rw (z, w, e)

pub answer_refusal : (refusal edition n : ℕ) (all : List Axis) → (answer_of refusal edition n all).refusal ≡ refusal
answer_refusal zero edition n all = refl
answer_refusal (suc refusal) edition n all = refl

-- what an answer says of the sheet
abbrev pub looked : List ℕ → ReadAnswer
looked bytes = answer_of (sheet_refusal bytes) (edition bytes) (axes bytes) (entries bytes (axes bytes))

module _ (bytes : List ℕ) (given : ReadAnswer) (e : given ≡ looked bytes) where
  pub given_refusal : given.refusal ≡ sheet_refusal bytes
  given_refusal =
      ap (λ (a : ReadAnswer). a.refusal) e ∙ answer_refusal (sheet_refusal bytes) (edition bytes) (axes bytes) (entries bytes (axes bytes))

  module _ (none : given.refusal ≡ 0) where
    pub not_refused : sheet_refusal bytes ≡ 0
    not_refused = sym given_refusal ∙ none

    given_is : given ≡ answer_of 0 (edition bytes) (axes bytes) (entries bytes (axes bytes))
    given_is = rw not_refused at e

    pub given_edition : given.edition ≡ edition bytes
    given_edition = ap (λ (a : ReadAnswer). a.edition) given_is

    pub given_axes : given.axes ≡ axes bytes
    given_axes = ap (λ (a : ReadAnswer). a.axes) given_is

    pub given_all : given.all ≡ entries bytes (axes bytes)
    given_all = ap (λ (a : ReadAnswer). a.all) given_is

-- ---- the promise

module _ (bytes : List ℕ) (knots samples : List Float) where
  -- where both buffers have their length, the refusal is the sheet's
  pub refusal_is : length knots ≡ 1024 → length samples ≡ 1024 → read_refusal bytes knots samples ≡ sheet_refusal bytes
  unfolding read_refusal
  refusal_is k s = rw (eq-eqb (length knots) 1024 k, eq-eqb (length samples) 1024 s)

  pub lengths_passed : read_refusal bytes knots samples ≡ 0 → sheet_refusal bytes ≡ 0
  unfolding read_refusal
  lengths_passed e = (passed (buffers_refused knots samples) 3 (sheet_refusal bytes) e).1

  pub knots_refused : (given : ReadAnswer) → (length knots ≡ 1024 → ⊥) → given ≡ refused_answer 4
      → ReadPromise bytes knots samples given knots samples
  unfolding read_refusal
  knots_refused given other e =
      let n = ne_eqb (length knots) 1024 other in
      record { answer = rw n e; knots = rw n refl; samples = rw n refl }

  pub samples_refused : (given : ReadAnswer) → length knots ≡ 1024 → (length samples ≡ 1024 → ⊥) → given ≡ refused_answer 4
      → ReadPromise bytes knots samples given knots samples
  unfolding read_refusal
  samples_refused given k other e =
      let m = eq-eqb (length knots) 1024 k in
      let n = ne_eqb (length samples) 1024 other in
      record { answer = rw (m, n) e; knots = rw (m, n) refl; samples = rw (m, n) refl }

  module _ (given : ReadAnswer) (k : length knots ≡ 1024) (s : length samples ≡ 1024) (e : given ≡ looked bytes) where
    pub sheet_refused : (given.refusal ≡ 0 → ⊥) → ReadPromise bytes knots samples given knots samples
    sheet_refused met =
        let refused : sheet_refusal bytes ≡ 0 → ⊥ = λ z. met (given_refusal bytes given e ∙ z) in
        record {
          answer = rw (refusal_is k s) e;
          knots = rw (refusal_is k s) (unchanged (sheet_refusal bytes) knots _ refused);
          samples = rw (refusal_is k s) (unchanged (sheet_refusal bytes) samples _ refused);
        }

    pub sheet_read : given.refusal ≡ 0 → (knots_later samples_later : List Float)
        → knots_later ≡ over (knots_below bytes (axes bytes)) knots
        → samples_later ≡ over (sheet_samples bytes) samples
        → ReadPromise bytes knots samples given knots_later samples_later
    sheet_read none knots_later samples_later f g =
        let z = not_refused bytes given e none in
        record { answer = rw (refusal_is k s) e; knots = rw (refusal_is k s, z) f; samples = rw (refusal_is k s, z) g }

-- ---- the samples

module _ (bytes : List ℕ) (at count : ℕ) (a : at ≡ samples_begin bytes) (c : count ≡ samples_length (sheet_grid bytes)) where
  pub samples_within : Accepted bytes → Within bytes at (64 * count)
  samples_within ok =
      let there = samples_room bytes ok in
      let few = samples_most bytes ok in
      let near = begin_most bytes (axes bytes) in
      record { room = omega arith; small = omega (arith, ok.said.few) }

  -- they stand in the first places
  pub samples_stored : (samples new : List Float) → count ≤ length samples → new ≡ numbers bytes at (length (take (count - 0) samples))
      → new ++ drop (count - 0) samples ≡ over (sheet_samples bytes) samples
  samples_stored samples new room e =
      let part : length (take (count - 0) samples) ≡ count = rw length-take (omega arith) in
      let same : new ≡ sheet_samples bytes = e ∙ rw (part, a, c) in
      let all : count - 0 ≡ count = omega arith in
      rw (all, same, length_table (samples_length (sheet_grid bytes)) _, c)
