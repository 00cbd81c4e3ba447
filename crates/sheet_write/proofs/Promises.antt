-- The writer's promise for each way that it ends.
use mathlib.Core.Path.{◌≡◌, refl, sym, ◌∙◌}
use mathlib.Core.List.{List}
use Prim.Native.Nat.{ℕ, ◌<◌, ◌≤◌}
use native.Mathlib.Omega.{arith}
use borrow.Author.Tests.{lt-ltb, le-ltb}
use lib.ListN.{length}
use lib.Ieee.{Float}
use Rattle.rules.specs.Sizes.{Grid}
use Rattle.rules.specs.declared.Axis.{Axis}
use Rattle.grid.specs.GridOfCall.{grid, sizes_of}
use Rattle.rules.proofs.Refused.{or_else_met, unchanged, none_counted}
use Rattle.base_bits.specs.Written.{bits_in, with_fields, bytes_for}
use Rattle.base_bits.proofs.Writes.{Bytes}
use Rattle.base_bits.proofs.Rows.{over_any}
use Rattle.sheet_read.specs.Read.{over}
use Rattle.sheet_read.proofs.Extents.{width_most}
use Rattle.sheet_write.specs.SheetOf.{part_fields, sheet_fields, sheet_of}
use Rattle.sheet_write.specs.Write.{no_sheet_refusal, edition_refusal, write_refusal, write_answer, WritePromise}
use Rattle.sheet_write.specs.PartsWithRoom.{SheetGiven, parts_bits}
use Rattle.sheet_write.proofs.Lengths.{sheet_bits, sheet_length}
use Rattle.sheet_write.proofs.Parts.{Known, known}
use Rattle.sheet_write.proofs.Largest.{part_count, bits_most}

-- the edition is judged by the axes alone
pub edition_of_axes : (edition axes : ℕ) (all : List Axis) (knots : List Float)
    → edition_refusal edition (sizes_of axes all) ≡ edition_refusal edition (grid axes all knots)
unfolding edition_refusal
edition_of_axes edition axes all knots = refl

module _ (edition : ℕ) (g : Grid) (samples : List Float) (buffer : List ℕ) where
  -- an answer with this refusal, and nothing written
  refused : (r : ℕ) → r ≡ write_refusal edition g samples buffer → (r ≡ 0 → ⊥)
      → WritePromise edition g samples buffer (record { refusal = r; length = 0 }) buffer
  unfolding write_answer
  refused r e met =
      let some : write_refusal edition g samples buffer ≡ 0 → ⊥ = λ z. met (e ∙ z) in
      record {
        answer = rw (e, ← none_counted (write_refusal edition g samples buffer) (length (sheet_of edition g samples)) some);
        output = unchanged (write_refusal edition g samples buffer) buffer (over (sheet_of edition g samples) buffer) some;
      }

  parts_first : (no_sheet_refusal g samples ≡ 0 → ⊥) → no_sheet_refusal g samples ≡ write_refusal edition g samples buffer
  unfolding write_refusal
  parts_first met = sym (or_else_met (no_sheet_refusal g samples) _ met)

  pub parts_refused : (r : ℕ) → r ≡ no_sheet_refusal g samples → (r ≡ 0 → ⊥)
      → WritePromise edition g samples buffer (record { refusal = r; length = 0 }) buffer
  parts_refused r e met = refused r (e ∙ parts_first (λ z. met (e ∙ z))) met

  module _ (r : ℕ) (e : r ≡ no_sheet_refusal g samples) (none : r ≡ 0) where
    passed : no_sheet_refusal g samples ≡ 0
    passed = sym e ∙ none

    pub given : Known g samples
    given = known g samples passed

    edition_first : (edition_refusal edition g ≡ 0 → ⊥) → edition_refusal edition g ≡ write_refusal edition g samples buffer
    unfolding write_refusal
    edition_first met = rw passed (sym (or_else_met (edition_refusal edition g) _ met))

    pub edition_refused : (f : ℕ) → f ≡ edition_refusal edition g → (f ≡ 0 → ⊥)
        → WritePromise edition g samples buffer (record { refusal = f; length = 0 }) buffer
    edition_refused f is met = refused f (is ∙ edition_first (λ z. met (is ∙ z))) met

    module _ (told : edition_refusal edition g ≡ 0) (bits : ℕ) (is : bits ≡ parts_bits edition g.axes g.entries) where
      pub few : bits ≤ 82467
      few = let most = bits_most edition g samples given in let width = width_most edition in omega (arith, is)

      size : length (sheet_of edition g samples) ≡ bytes_for bits
      size = sheet_length edition g samples ∙ rw (part_count g samples given edition, is)

      short : length buffer < bytes_for bits → 15 ≡ write_refusal edition g samples buffer
      unfolding write_refusal
      short l = rw (passed, told, lt-ltb (length buffer) (length (sheet_of edition g samples)) (rw size l))

      pub buffer_refused : length buffer < bytes_for bits
          → WritePromise edition g samples buffer (record { refusal = 15; length = 0 }) buffer
      buffer_refused l = refused 15 (short l) (λ z. omega (arith, z))

      module _ (long : bytes_for bits ≤ length buffer) where
        pub room : SheetGiven buffer edition g samples
        room =
            let k = given in
            let range = k.grid_given.in_range in
            let whole = sheet_bits edition g samples in
            let count = part_count g samples k edition in
            let most = few in
            record {
              fields = record {
                few = range.few_axes;
                some_points = range.some_points;
                few_points = range.few_points;
                knots_exact = k.grid_given.knots_exact;
                finite_ends = k.solve_given.ends_finite;
                finite_knots = k.grid_given.knots_finite;
              };
              finite_samples = k.samples_finite;
              within = record { room = omega arith; small = omega arith };
            }

        taken : 0 ≡ write_refusal edition g samples buffer
        unfolding write_refusal
        taken = rw (passed, told, le-ltb (length buffer) (length (sheet_of edition g samples)) (rw size long))

        over_is : Bytes buffer → with_fields buffer 0 (sheet_fields edition g samples) ≡ over (sheet_of edition g samples) buffer
        unfolding sheet_of
        over_is all =
            over_any (sheet_fields edition g samples) (bytes_for (bits_in (part_fields edition g samples))) (sheet_bits edition g samples)
            buffer all (rw (part_count g samples given edition, ← is) long)

        pub written : Bytes buffer → (later : List ℕ) → later ≡ with_fields buffer 0 (sheet_fields edition g samples)
            → WritePromise edition g samples buffer (record { refusal = 0; length = bytes_for bits }) later
        unfolding write_answer
        written all later put = record {
          answer = rw (← taken, size);
          output = rw (← taken) (put ∙ over_is all);
        }
