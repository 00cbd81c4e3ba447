-- Reading and writing undo each other: the statements of specs/RoundTrip.antt, from the promises of both and laws about the definitions.
use mathlib.Core.Path.{◌≡◌, sym, ap, ◌∙◌}
use mathlib.Core.Bool.{cond}
use mathlib.Core.List.{List}
use Prim.Native.Nat.{ℕ, ◌<◌, ◌≤◌}
use native.Mathlib.Omega.{arith}
use borrow.Author.Tests.{lt-ltb}
use lib.Dec.{ltb}
use lib.ListN.{length, get_or, take}
use lib.Ieee.{Float}
use Rattle.rules.specs.Sizes.{unused_axis, Grid, knots_length, samples_length}
use Rattle.rules.specs.declared.Axis.{Axis}
use Rattle.rules.proofs.Tables.{at_table}
use Rattle.grid.specs.GridOfCall.{grid, sizes_of}
use Rattle.base_bits.proofs.Writes.{Bytes}
use Rattle.base_bits.proofs.Rows.{packed_bytes}
use Rattle.sheet_read.specs.Fields.{edition as edition_said, axes, entries, knots_below, sheet_grid, sheet_samples}
use Rattle.sheet_read.specs.Faults.{sheet_refusal}
use Rattle.sheet_read.specs.Read.{over, ReadPromise, ReadAnswer}
use Rattle.sheet_read.proofs.Unique.{read_accepts, read_refuses_no_sheet}
use Rattle.sheet_read.proofs.Parts.{take_over, parts}
use Rattle.sheet_write.specs.SheetOf.{sheet_fields, sheet_of}
use Rattle.sheet_write.specs.Write.{no_sheet_refusal, WritePromise, WriteAnswer}
use Rattle.sheet_write.specs.RoundTrip.{
  PartsHeld,
  entry,
  in_use,
  SheetRead,
  grid_read,
  samples_read,
  HasOneSheet,
  OneSheet,
  OneSheetRead,
  ReadBack,
  WrittenBack,
}
use Rattle.sheet_write.proofs.Editions.{own_edition}
use Rattle.sheet_write.proofs.Parts.{known, WithoutNan, without_nan}
use Rattle.sheet_write.proofs.Sheets.{read_of_sheet, sheet_without_nan, sheet_of_read}
use Rattle.sheet_write.proofs.Unique.{write_accepts, write_refuses_no_sheet}

-- ---- 1: an input that passes the checks has one sheet

pub of_bytes : (edition : ℕ) (g : Grid) (samples : List Float) → Bytes (sheet_of edition g samples)
unfolding sheet_of
of_bytes edition g samples = packed_bytes (sheet_fields edition g samples)

module _ (edition : ℕ) (g : Grid) (samples : List Float) (none : no_sheet_refusal g samples ≡ 0) where
  entry_read : (i : ℕ) → i < g.axes → get_or (in_use g) i unused_axis ≡ entry g i
  entry_read i l =
      let few = (known g samples none).grid_given.in_range.few_axes in
      at_table 4 (λ j. cond (ltb j g.axes) (entry g j) unused_axis) i unused_axis (omega arith) ∙ rw (lt-ltb i g.axes l)

  -- the grid as a reader gives it back
  abbrev given_back : Grid
  given_back = grid g.axes (in_use g) g.flat_knots

  grid_is : (bytes : List ℕ) → SheetRead bytes edition g samples → sheet_grid bytes ≡ given_back
  unfolding sheet_grid
  grid_is bytes read = rw (read.entries_same, read.knots_same, read.axes_same)

  -- a sheet with these parts has no nan, since they have none
  no_nan_read : (bytes : List ℕ) → SheetRead bytes edition g samples → WithoutNan (sheet_grid bytes) (sheet_samples bytes)
  no_nan_read bytes read =
      let fine = without_nan g samples none in
      rw (read.samples_same, grid_is bytes read) (record {
        knots_fine = fine.knots_fine;
        samples_fine = fine.samples_fine;
        ends_fine = λ i l. rw (entry_read i l) (fine.ends_fine i l);
      })

  -- so it is the sheet of what is read of it
  is_sheet_of : (bytes : List ℕ) → Bytes bytes → SheetRead bytes edition g samples → bytes ≡ sheet_of edition given_back samples
  is_sheet_of bytes all read =
      sym (sheet_without_nan bytes all read.taken (no_nan_read bytes read))
      ∙ cc (read.edition_same, grid_is bytes read, read.samples_same)

pub has_one_sheet : HasOneSheet
has_one_sheet edition g samples held none told =
    let own = read_of_sheet edition g samples none told held in
    let own_bytes = of_bytes edition g samples in
    let is = is_sheet_of edition g samples none in
    (own_bytes, own, λ bytes all read. is bytes all read ∙ sym (is (sheet_of edition g samples) own_bytes own))

-- ---- 2: two sheets with the same parts

pub one_sheet : OneSheet
one_sheet bytes other all all' taken taken' edition_same grid_same samples_same none =
    let none' : no_sheet_refusal (sheet_grid other) (sheet_samples other) ≡ 0 = cc in
    sym (sheet_of_read bytes all taken none) ∙ cc (sheet_of_read other all' taken' none')

-- what a read accepted, and that the parts which it gave are the sheet's
pub record Read (bytes : List ℕ) (r : ReadAnswer) (k s : List Float) : Type 0 where
  pub taken : sheet_refusal bytes ≡ 0
  pub edition_is : r.edition ≡ edition_said bytes
  pub grid_is : grid_read r k ≡ sheet_grid bytes
  pub samples_are : samples_read r s ≡ sheet_samples bytes

parts_back :
    (bytes : List ℕ) (knots_lent samples_lent k s : List Float) (n : ℕ) (all : List Axis)
    → sheet_refusal bytes ≡ 0
    → n ≡ axes bytes
    → all ≡ entries bytes (axes bytes)
    → k ≡ over (knots_below bytes (axes bytes)) knots_lent
    → s ≡ over (sheet_samples bytes) samples_lent
    → (grid n all (take (knots_length (sizes_of n all)) k) ≡ sheet_grid bytes)
    × (take (samples_length (sizes_of n all)) s ≡ sheet_samples bytes)
unfolding sheet_grid
parts_back bytes knots_lent samples_lent k s n all e said found x y =
    let sizes = parts bytes e in (
      rw (said, found, x, take_over (knots_below bytes (axes bytes)) knots_lent _ sizes.knots),
      rw (said, found, y) (take_over (sheet_samples bytes) samples_lent _ sizes.samples),
    )

pub read :
    (bytes : List ℕ) (knots_lent samples_lent : List Float) (r : ReadAnswer) (k s : List Float)
    → ReadPromise bytes knots_lent samples_lent r k s
    → r.refusal ≡ 0
    → Read bytes r k s
read bytes knots_lent samples_lent r k s q none =
    let given = read_accepts bytes knots_lent samples_lent r k s q none in
    let said : r.axes ≡ axes bytes = ap (λ (x : ReadAnswer). x.axes) given.1 in
    let found : r.all ≡ entries bytes (axes bytes) = ap (λ (x : ReadAnswer). x.all) given.1 in
    let back = parts_back bytes knots_lent samples_lent k s r.axes r.all given.0 said found given.2 given.3 in
    record {
      taken = given.0;
      edition_is = ap (λ (x : ReadAnswer). x.edition) given.1;
      grid_is = back.0;
      samples_are = back.1;
    }

pub one_sheet_read : OneSheetRead
one_sheet_read bytes other all all' r taken knots_lent samples_lent k s p knots_lent' samples_lent' k' s' q knots_same samples_same none =
    let first = read bytes knots_lent samples_lent r k s p taken in
    let second = read other knots_lent' samples_lent' r k' s' q taken in
    one_sheet bytes other all all' first.taken second.taken
    (sym first.edition_is ∙ second.edition_is)
    (sym first.grid_is ∙ ap (grid r.axes r.all) knots_same ∙ second.grid_is)
    (sym first.samples_are ∙ samples_same ∙ second.samples_are)
    (cc (first.grid_is, first.samples_are, none))

-- ---- 3: a sheet that was written is read

pub read_of_written :
    (edition : ℕ) (g : Grid) (samples : List Float) (buffer : List ℕ) (a : WriteAnswer) (b : List ℕ)
    → PartsHeld g samples
    → WritePromise edition g samples buffer a b
    → a.refusal ≡ 0
    → (knots_lent samples_lent : List Float) (r : ReadAnswer) (k s : List Float)
    → length knots_lent ≡ 1024
    → length samples_lent ≡ 1024
    → ReadPromise (take a.length b) knots_lent samples_lent r k s
    → (r ≡ record { refusal = 0; edition = edition; axes = g.axes; all = in_use g })
    × (k ≡ over g.flat_knots knots_lent)
    × (s ≡ over samples samples_lent)
read_of_written edition g samples buffer a b held p none knots_lent samples_lent r k s kl sl q =
    let w = write_accepts edition g samples buffer a b p none in
    let sheet = sheet_of edition g samples in
    let found = read_of_sheet edition g samples w.0.0 w.0.1 held in
    let front : take a.length b ≡ sheet = rw w.2 (take_over sheet buffer a.length (sym w.1)) in
    let given : ReadPromise sheet knots_lent samples_lent r k s = rw front at q in
    let taken = read_refuses_no_sheet sheet knots_lent samples_lent r k s given kl sl found.taken in
    let parts_read = read_accepts sheet knots_lent samples_lent r k s given taken in (
      parts_read.1 ∙ rw (found.entries_same, found.axes_same, found.edition_same),
      parts_read.2 ∙ rw found.knots_same,
      parts_read.3 ∙ rw found.samples_same,
    )

pub read_back : ReadBack
read_back edition g samples held none told buffer room a b p knots_lent samples_lent kl sl r k s q =
    let taken = write_refuses_no_sheet edition g samples buffer a b p none told room in
    let found = read_of_written edition g samples buffer a b held p taken knots_lent samples_lent r k s kl sl q in
    (taken, found.0, found.1, found.2)

-- ---- 4: a sheet that was read is written

-- the parts of an accepted sheet, which pass the checks, in its own edition
module _
    (bytes : List ℕ) (all : Bytes bytes) (taken : sheet_refusal bytes ≡ 0)
    (none : no_sheet_refusal (sheet_grid bytes) (sheet_samples bytes) ≡ 0) (buffer : List ℕ) (room : length bytes ≤ length buffer)
  where
    written :
        (a : WriteAnswer) (b : List ℕ) → WritePromise (edition_said bytes) (sheet_grid bytes) (sheet_samples bytes) buffer a b
        → (a.refusal ≡ 0) × (a.length ≡ length bytes) × (b ≡ over bytes buffer)
    written a b p =
        let sheet = sheet_of_read bytes all taken none in
        let accepted = write_refuses_no_sheet _ _ _ buffer a b p none (own_edition bytes taken) (rw sheet room) in
        let w = write_accepts _ _ _ buffer a b p accepted in
        (accepted, w.1 ∙ rw sheet, w.2 ∙ rw sheet)

    pub written_own :
        {edition : ℕ} {g : Grid} {samples : List Float}
        → edition ≡ edition_said bytes
        → g ≡ sheet_grid bytes
        → samples ≡ sheet_samples bytes
        → {a : WriteAnswer} {b : List ℕ} → WritePromise edition g samples buffer a b
        → (a.refusal ≡ 0) × (a.length ≡ length bytes) × (b ≡ over bytes buffer)
    written_own said grid_is samples_are {a} {b} p = written a b (rw (said, grid_is, samples_are) at p)

pub written_back : WrittenBack
written_back bytes all knots_lent samples_lent r k s q taken none buffer room a b p =
    let given = read bytes knots_lent samples_lent r k s q taken in
    let passed : no_sheet_refusal (sheet_grid bytes) (sheet_samples bytes) ≡ 0 = cc (given.grid_is, given.samples_are, none) in
    written_own bytes all given.taken passed buffer room given.edition_is given.grid_is given.samples_are p
