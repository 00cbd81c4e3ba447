-- The reader of edition 1: its promise for each way that it ends, its one answer, that edition 2 shows it nothing, and that a sheet of
-- edition 1 is read as ever: the same parts, and extend.
use mathlib.Core.Path.{◌≡◌, refl, sym, ap, ◌∙◌}
use mathlib.Core.Bool.{Bool, true, false, cond}
use mathlib.Core.List.{List, [], ◌∷◌}
use Prim.Native.Nat.{ℕ, zero, suc, ◌+◌, ◌*◌, ◌<◌, ◌≤◌}
use native.Mathlib.Omega.{arith}
use borrow.Author.Tests.{lt-ltb, le-ltb, eq-eqb, ne_eqb}
use lib.Dec.{ltb}
use lib.ListN.{length, get_or}
use lib.Ieee.{Float}
use Rattle.rules.proofs.Tables.{at_table}
use Rattle.rules.specs.Numbers.{table}
use Rattle.rules.specs.Sizes.{most_axes, unused_axis}
use Rattle.rules.specs.declared.Axis.{Axis}
use Rattle.rules.specs.declared.Mode.TheVariants.{Extend}
use Rattle.base_bits.specs.Bits.{bit, field}
use Rattle.grid_codes.specs.Modes.{mode_of_number}
use Rattle.grid_codes.specs.Editions.{mode_width}
use Rattle.sheet_read.specs.Fields.{edition, axes, values_begin, axis_at, axis_begin, entries}
use Rattle.sheet_read.specs.Faults.{sheet_refusal, edition_1_refusal}
use Rattle.sheet_read.specs.Read.{
  refused_answer,
  answer_of,
  edition_1_answer,
  read_refusal,
  ReadPromise,
  read_edition_1_refusal,
  Edition1Promise,
  ReadAnswer,
  Edition1Answer,
}
use Rattle.sheet_read.proofs.Promises.{answer_refusal}

-- ---- its promise

module _ (bytes : List ℕ) (knots samples : List Float) where
  abbrev refusal : ℕ
  refusal = read_edition_1_refusal bytes knots samples

  -- a refusal, whose number is not 0
  refused_by : (number : ℕ) (given : Edition1Answer) → refusal ≡ suc number → given ≡ edition_1_answer (refused_answer (suc number))
      → Edition1Promise bytes knots samples given knots samples
  refused_by number given is e = record { answer = rw is e; knots = rw is refl; samples = rw is refl }

  other_knots : (length knots ≡ 1024 → ⊥) → refusal ≡ 4
  unfolding read_edition_1_refusal
  other_knots other = rw (ne_eqb (length knots) 1024 other)

  pub knots_refused : (given : Edition1Answer) → (length knots ≡ 1024 → ⊥) → given ≡ edition_1_answer (refused_answer 4)
      → Edition1Promise bytes knots samples given knots samples
  knots_refused given other = refused_by 3 given (other_knots other)

  module _ (k : length knots ≡ 1024) where
    other_samples : (length samples ≡ 1024 → ⊥) → refusal ≡ 4
    unfolding read_edition_1_refusal
    other_samples other = rw (eq-eqb (length knots) 1024 k, ne_eqb (length samples) 1024 other)

    pub samples_refused : (given : Edition1Answer) → (length samples ≡ 1024 → ⊥) → given ≡ edition_1_answer (refused_answer 4)
        → Edition1Promise bytes knots samples given knots samples
    samples_refused given other = refused_by 3 given (other_samples other)

    module _ (s : length samples ≡ 1024) where
      -- where both buffers have their length, the refusal is the sheet's
      pub refusal_is : refusal ≡ edition_1_refusal bytes
      unfolding read_edition_1_refusal
      refusal_is = rw (eq-eqb (length knots) 1024 k, eq-eqb (length samples) 1024 s)

      no_edition : 8 * length bytes < 0 + 4 → refusal ≡ 11
      unfolding edition_1_refusal
      no_edition gone = refusal_is ∙ rw (lt-ltb (8 * length bytes) (0 + 4) gone)

      pub edition_short : (given : Edition1Answer) → 8 * length bytes < 0 + 4 → given ≡ edition_1_answer (refused_answer 11)
          → Edition1Promise bytes knots samples given knots samples
      edition_short given gone = refused_by 10 given (no_edition gone)

      module _ (room : 0 + 4 ≤ 8 * length bytes) where
        pub another : (edition bytes ≡ 1 → ⊥) → refusal ≡ 12
        unfolding edition_1_refusal
        another other = refusal_is ∙ rw (le-ltb (8 * length bytes) (0 + 4) room, ne_eqb (edition bytes) 1 other)

        pub edition_refused : (given : Edition1Answer) → (edition bytes ≡ 1 → ⊥) → given ≡ edition_1_answer (refused_answer 12)
            → Edition1Promise bytes knots samples given knots samples
        edition_refused given other = refused_by 11 given (another other)

-- ---- a sheet of edition 1

-- bytes that say an edition have the bits of it
pub edition_there : (bytes : List ℕ) → (edition bytes ≡ 0 → ⊥) → 0 + 4 ≤ 8 * length bytes
unfolding bit field
edition_there [] some = absurd (some refl)
edition_there (byte ∷ bytes) some = omega arith

module _ (bytes : List ℕ) (first : edition bytes ≡ 1) where
  same_fault : edition_1_refusal bytes ≡ sheet_refusal bytes
  unfolding edition_1_refusal
  same_fault = rw (le-ltb (8 * length bytes) (0 + 4) (edition_there bytes (λ z. omega (arith, z, first))), eq-eqb (edition bytes) 1 first)

  -- an axis extends, and the numbers of its ends follow its kinds
  pub extends : (at : ℕ) → (axis_at bytes at).mode ≡ Extend
  unfolding axis_at mode_width field mode_of_number
  extends at = rw first

  pub no_mode_bits : (at : ℕ) → values_begin bytes at ≡ at + 12
  unfolding mode_width
  no_mode_bits at = rw first (omega arith)

  all_extend : (n i : ℕ) → i < most_axes → (get_or (entries bytes n) i unused_axis).mode ≡ Extend
  unfolding entries
  all_extend n i l =
      ap (λ (a : Axis). a.mode) (at_table most_axes (λ j. cond (ltb j n) (axis_at bytes (axis_begin bytes j)) unused_axis) i unused_axis l)
      ∙ either (ltb i n)
    where
      either : (b : Bool) → (cond b (axis_at bytes (axis_begin bytes i)) unused_axis).mode ≡ Extend
      either true = extends (axis_begin bytes i)
      either false = refl

  answer_extends : (refusal n i : ℕ) → i < most_axes
      → (get_or (answer_of refusal (edition bytes) n (entries bytes n)).all i unused_axis).mode ≡ Extend
  answer_extends zero n i l = all_extend n i l
  answer_extends (suc refusal) n i l = ap (λ (a : Axis). a.mode) (at_table most_axes (λ j. unused_axis) i unused_axis l)

  answer_first : (refusal n : ℕ) → refusal ≡ 0 → (answer_of refusal (edition bytes) n (entries bytes n)).edition ≡ 1
  answer_first refusal n e = rw e first

  module _ (knots samples : List Float) where
    same_refusal : read_edition_1_refusal bytes knots samples ≡ read_refusal bytes knots samples
    unfolding read_edition_1_refusal read_refusal
    same_refusal = rw same_fault

    -- what `read` promises of it, the reader of edition 1 does
    pub as_read : (a : ReadAnswer) (b : Edition1Answer) (k s : List Float) → ReadPromise bytes knots samples a k s → b ≡ edition_1_answer a
        → Edition1Promise bytes knots samples b k s
    as_read a b k s p e = record {
      answer = rw same_refusal (e ∙ ap edition_1_answer p.answer);
      knots = rw same_refusal p.knots;
      samples = rw same_refusal p.samples;
    }

    -- so both give the same, `read` says edition 1 of what it accepts, and each of the four axes extends
    pub edition_1_as_before :
        (a : ReadAnswer) (b : Edition1Answer) (k k' s s' : List Float)
        → ReadPromise bytes knots samples a k s
        → Edition1Promise bytes knots samples b k' s'
        → (b ≡ edition_1_answer a)
        × (k ≡ k')
        × (s ≡ s')
        × (a.refusal ≡ 0 → a.edition ≡ 1)
        × ((i : ℕ) → i < most_axes → (get_or a.all i unused_axis).mode ≡ Extend)
    edition_1_as_before a b k k' s s' p q =
        let refusal = read_refusal bytes knots samples in
        let number : a.refusal ≡ refusal = ap (λ (r : ReadAnswer). r.refusal) p.answer ∙ answer_refusal _ _ _ _ in (
          rw same_refusal at q.answer ∙ ap edition_1_answer (sym p.answer),
          p.knots ∙ sym (rw same_refusal at q.knots),
          p.samples ∙ sym (rw same_refusal at q.samples),
          (λ none. ap (λ (r : ReadAnswer). r.edition) p.answer ∙ answer_first refusal (axes bytes) (sym number ∙ none)),
          (λ i l. ap (λ (r : ReadAnswer). (get_or r.all i unused_axis).mode) p.answer ∙ answer_extends refusal (axes bytes) i l),
        )

-- ---- one answer, and nothing of edition 2

pub read_edition_1_unique :
    (bytes : List ℕ) (knots samples : List Float) (a a' : Edition1Answer) (k k' s s' : List Float)
    → Edition1Promise bytes knots samples a k s
    → Edition1Promise bytes knots samples a' k' s'
    → (a ≡ a') × (k ≡ k') × (s ≡ s')
read_edition_1_unique bytes knots samples a a' k k' s s' p q =
    (p.answer ∙ sym q.answer, p.knots ∙ sym q.knots, p.samples ∙ sym q.samples)

pub read_edition_1_of_2 :
    (bytes : List ℕ) (knots samples : List Float) (a : Edition1Answer) (k s : List Float)
    → Edition1Promise bytes knots samples a k s
    → length knots ≡ 1024
    → length samples ≡ 1024
    → edition bytes ≡ 2
    → (a ≡ record { refusal = 12; axes = 0; all = table most_axes (λ i. unused_axis) })
    × (k ≡ knots)
    × (s ≡ samples)
read_edition_1_of_2 bytes knots samples a k s p e f second =
    let is = another bytes knots samples e f (edition_there bytes (λ z. omega (arith, z, second))) (λ z. omega (arith, z, second)) in
    (rw is at p.answer, rw is at p.knots, rw is at p.samples)
