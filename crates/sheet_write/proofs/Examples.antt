-- The example sheet written from its parts in both editions, one refusal of each kind, and a sheet with a nan in it, which the reader takes
-- and the writer does not: the rows of one theorem about the definitions; and the example sheet written back.
use mathlib.Core.Path.{◌≡◌, refl, subst}
use mathlib.Core.Bool.{true}
use mathlib.Core.List.{List, [], ◌∷◌, ◌++◌}
use Prim.Native.Nat.{ℕ, ◌≤◌}
use lib.ListN.{length}
use lib.Ieee.{Float, nan, inf, of_bits, to_bits, lt, sub, add, neg}
use Rattle.rules.specs.Numbers.{plus_zero, one, any}
use Rattle.rules.specs.Ends.{natural, not_a_knot}
use Rattle.rules.specs.Steps.{h}
use Rattle.rules.specs.Sizes.{Grid, sum_below, product_below}
use Rattle.rules.specs.Refusals.{step_refused}
use Rattle.rules.specs.declared.Axis.{Axis}
use Rattle.rules.specs.declared.Condition.{Condition}
use Rattle.rules.specs.declared.Mode.{Mode}
use Rattle.rules.specs.declared.Mode.TheVariants.{Extend, Hold, Refuse}
use Rattle.base_bits.specs.Bits.{bit, field}
use Rattle.base_bits.proofs.Writes.{Bytes}
use Rattle.base_bits.specs.Written.{patch, with_bit, with_field, bits_in, with_fields, packed}
use Rattle.grid_codes.specs.Kinds.{values_of_kind, end_of_kind, condition_of_kind, periodic_at_one_end}
use Rattle.grid_codes.specs.Modes.{mode_of_number}
use Rattle.grid_codes.specs.Editions.{unknown_edition, mode_width, mode_refused}
use Rattle.sheet_read.specs.Fields.{
  points_at,
  values_at,
  axis_at,
  knots_begin,
  knots_at,
  axis_end,
  axis_begin,
  entries,
  knots_below,
  sheet_grid,
  sheet_samples,
}
use Rattle.sheet_read.specs.Faults.{axis_fault, axes_fault, tail_refused, samples_fault, sheet_refusal}
use Rattle.sheet_read.specs.Read.{buffer_length, over, ReadPromise, ReadAnswer}
use Rattle.sheet_read.proofs.Unique.{read_refuses_no_sheet}
use Rattle.sheet_read.proofs.Examples.{zero_bytes, example, second_edition}
use Rattle.sheet_write.specs.SheetOf.{axis_fields, axes_fields, part_fields, sheet_fields, sheet_of}
use Rattle.sheet_write.specs.Write.{no_sheet_refusal, edition_refusal, write_refusal, WritePromise, WriteAnswer}
use Rattle.sheet_write.specs.RoundTrip.{grid_read, samples_read}
use Rattle.sheet_write.proofs.RoundTrip.{of_bytes, read, written_back}

-- one axis of two points; the three that are not in use have a mode that nothing reads
abbrev line : Condition → Mode → List Float → Grid
line condition mode x =
    let other : Axis = record { points = 0; condition = condition; mode = Refuse } in
    record { axes = 1; entries = record { points = 2; condition = condition; mode = mode } ∷ other ∷ other ∷ other ∷ []; flat_knots = x }

abbrev ends : List Float
ends = plus_zero ∷ one ∷ []

-- the example sheet with a pattern of a nan for its last sample
abbrev with_nan : List ℕ
with_nan = 0x12 ∷ 0x03 ∷ 0x40 ∷ zero_bytes 23 ++ (0x07 ∷ 0xFE ∷ zero_bytes 14) ++ (0x0F ∷ 0xFF ∷ 0x20 ∷ zero_bytes 6)

pub record Examples : Type 0 where
  pub written : sheet_of 1 (line natural Extend ends) ends ≡ example
  pub extended : sheet_of 2 (line natural Extend ends) ends ≡ second_edition 0x40
  pub held : sheet_of 2 (line natural Hold ends) ends ≡ second_edition 0x48
  pub taken : no_sheet_refusal (line natural Hold ends) ends ≡ 0
  -- a buffer of its 51 bytes will do, and one of 50 will not
  pub exact : write_refusal 1 (line natural Extend ends) ends (zero_bytes 51) ≡ 0
  pub one_short : write_refusal 2 (line natural Hold ends) ends (zero_bytes 50) ≡ 15
  pub no_sample : write_refusal 1 (line natural Extend ends) [] [] ≡ 4
  pub infinite : write_refusal 1 (line natural Extend ends) (plus_zero ∷ inf true ∷ []) [] ≡ 7
  pub falling : write_refusal 1 (line natural Extend (one ∷ plus_zero ∷ [])) ends [] ≡ 8
  -- 9 stands before 12, 12 and 23 before 15
  pub few : write_refusal 3 (line not_a_knot Hold ends) ends [] ≡ 9
  pub no_edition : write_refusal 0 (line natural Extend ends) ends [] ≡ 12
  pub edition_three : write_refusal 3 (line natural Hold ends) ends [] ≡ 12
  pub lost : write_refusal 1 (line natural Hold ends) ends [] ≡ 23
  pub lost_too : write_refusal 1 (line natural Refuse ends) ends [] ≡ 23
  -- the example sheet is read, and its parts pass the checks
  pub example_read : sheet_refusal example ≡ 0
  pub example_passed : no_sheet_refusal (sheet_grid example) (sheet_samples example) ≡ 0
  -- a sheet with a nan is read, and its parts have no sheet
  pub nan_read : sheet_refusal with_nan ≡ 0
  pub nan_found : sheet_samples with_nan ≡ plus_zero ∷ nan ∷ []
  pub nan_refused : no_sheet_refusal (sheet_grid with_nan) (sheet_samples with_nan) ≡ 7

pub examples : Examples
unfolding any sum_below product_below bit field values_of_kind end_of_kind condition_of_kind periodic_at_one_end mode_of_number
    unknown_edition mode_width mode_refused points_at values_at axis_at knots_begin knots_at axis_end axis_begin entries knots_below
    sheet_grid axis_fault axes_fault tail_refused samples_fault sheet_refusal patch with_bit with_field bits_in with_fields packed
    axis_fields axes_fields part_fields sheet_fields sheet_of no_sheet_refusal edition_refusal write_refusal step_refused h lt sub add neg
    of_bits to_bits
examples = record {
  written = refl;
  extended = refl;
  held = refl;
  taken = refl;
  exact = refl;
  one_short = refl;
  no_sample = refl;
  infinite = refl;
  falling = refl;
  few = refl;
  no_edition = refl;
  edition_three = refl;
  lost = refl;
  lost_too = refl;
  example_read = refl;
  example_passed = refl;
  nan_read = refl;
  nan_found = refl;
  nan_refused = refl;
}

-- so the premises of `written_back` hold of it: read and written into a buffer of its 51 bytes or more, it stands there again
example_bytes : Bytes example
example_bytes = subst Bytes examples.written (of_bytes 1 (line natural Extend ends) ends)

pub example_written_back :
    (knots_lent samples_lent : List Float) → length knots_lent ≡ buffer_length → length samples_lent ≡ buffer_length
    → (r : ReadAnswer) (k s : List Float) → ReadPromise example knots_lent samples_lent r k s
    → (buffer : List ℕ) → 51 ≤ length buffer
    → (a : WriteAnswer) (b : List ℕ) → WritePromise r.edition (grid_read r k) (samples_read r s) buffer a b
    → (a.refusal ≡ 0) × (a.length ≡ 51) × (b ≡ over example buffer)
example_written_back knots_lent samples_lent kl sl r k s q buffer room a b p =
    let taken = read_refuses_no_sheet example knots_lent samples_lent r k s q kl sl examples.example_read in
    let given = read example knots_lent samples_lent r k s q taken in
    let passed : no_sheet_refusal (grid_read r k) (samples_read r s) ≡ 0 =
    cc (given.grid_is, given.samples_are, examples.example_passed) in
    written_back example example_bytes knots_lent samples_lent r k s q taken passed buffer room a b p
