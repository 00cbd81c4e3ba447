-- Reading and writing undo each other: the sheet of parts is accepted and has these parts, and the sheet of an accepted sheet's parts is
-- that sheet.
use mathlib.Core.Path.{◌≡◌, refl, sym, ap, ap₂, subst, ◌∙◌}
use mathlib.Core.Bool.{false, not, cond}
use mathlib.Core.List.{List, [], ◌∷◌, ◌++◌}
use Prim.Native.Nat.{ℕ, zero, suc, ◌+◌, ◌-◌, ◌*◌, ◌%◌, ◌^◌, ◌<◌, ◌≤◌}
use native.Mathlib.Nat.{le_refl}
use native.Mathlib.Omega.{arith}
use borrow.Author.Tests.{le-ltb, lt-ltb, lt-leb, leb-false, eqb-true, not-false}
use lib.Dec.{ltb, eqb}
use lib.ListN.{length, get_or, take, drop}
use lib.Pow.{pow_pos}
use lib.Seq.{take_all}
use lib.Ieee.{Float}
use Rattle.base_numbers.proofs.Scan.{neither}
use Rattle.rules.specs.Numbers.{any}
use Rattle.rules.specs.Sizes.{most_axes, unused_axis, Grid, points, sum_below, knots_length, samples_length, tensor_length}
use Rattle.rules.specs.Refusals.{tensor_refused}
use Rattle.rules.specs.declared.Axis.{Axis}
use Rattle.rules.proofs.Tables.{at_table, length_table}
use Rattle.rules.proofs.Sums.{product_ext}
use Rattle.base_bits.specs.Bits.{bit, field, number, numbers_short}
use Rattle.base_bits.specs.Written.{number_fields, bits_in, filler}
use Rattle.base_bits.proofs.Runs.{short_together}
use Rattle.base_bits.proofs.Writes.{Bytes}
use Rattle.base_bits.proofs.Rows.{
  Stand,
  Sized,
  stand_first,
  stand_second,
  stand_append,
  sized_append,
  packed_stand,
  packed_of,
  bits_in_append,
}
use Rattle.base_bits.proofs.Numbers.{numbers_sized, numbers_read, numbers_stand, each_take, each_drop}
use Rattle.grid_codes.specs.Editions.{mode_width}
use Rattle.sheet_read.specs.Fields.{
  edition as edition_said,
  axes,
  mode_bits,
  entries,
  knots_below,
  sheet_grid,
  samples_begin,
  sheet_samples,
  samples_end,
}
use Rattle.sheet_read.specs.Faults.{tail_refused, samples_fault, sheet_refusal}
use Rattle.sheet_read.proofs.Samples.{bits_set, product_least}
use Rattle.sheet_read.proofs.Sheets.{Accepted, accepted, axes_allowed, some_axes, samples_room}
use Rattle.sheet_write.specs.SheetOf.{ends_fields, axis_fields, axes_fields, part_fields, sheet_fields, sheet_of}
use Rattle.sheet_write.specs.Write.{no_sheet_refusal, edition_refusal}
use Rattle.sheet_write.specs.RoundTrip.{PartsHeld, entry, in_use, SheetRead}
use Rattle.sheet_write.proofs.Ends.{ends_sized, lower_kind_most, upper_kind_most}
use Rattle.sheet_write.proofs.Editions.{edition_fits, mode_fits, Taken, taken}
use Rattle.sheet_write.proofs.Lengths.{part_bits, sheet_bits, sheet_length}
use Rattle.sheet_write.proofs.Parts.{Known, known, WithoutNan, without_nan}
use Rattle.sheet_write.proofs.Axes.{begin_is, no_fault, entries_found, knots_found, end_is, axes_stand}

-- ---- each number fits its field

module _ (edition : ℕ) (g : Grid) (samples : List Float) (k : Known g samples) (held : PartsHeld g samples) (t : Taken edition g) where
  abbrev width : ℕ
  width = mode_width edition

  axis_sized : (i : ℕ) → i < g.axes
      → Sized (axis_fields width (entry g i) (take (points g i) (drop (sum_below (points g) i) g.flat_knots)))
  unfolding Sized axis_fields
  axis_sized i l =
      let most = k.grid_given.in_range.few_points i l in
      let some = k.grid_given.in_range.some_points i l in
      let x = take (points g i) (drop (sum_below (points g) i) g.flat_knots) in
      let c = (entry g i).condition in (
        (let e : points g i - 1 < 256 = omega arith in e),
        (
          lower_kind_most c,
          (
            upper_kind_most c,
            (
              mode_fits edition (entry g i).mode t.known (t.modes i l),
              sized_append (ends_fields c) (number_fields x) (ends_sized c (held.ends_held i l))
                  (numbers_sized x
                  (each_take _ (points g i) (drop (sum_below (points g) i) g.flat_knots)
                  (each_drop _ (sum_below (points g) i) g.flat_knots held.knots_held))),
            ),
          ),
        ),
      )

  axes_sized : (i : ℕ) → i ≤ g.axes → Sized (axes_fields width g i)
  unfolding Sized axes_fields
  axes_sized zero l = tt
  axes_sized (suc i) l =
      sized_append (axes_fields width g i) (axis_fields width (entry g i) _) (axes_sized i (omega arith)) (axis_sized i l)

  filler_sized : (n : ℕ) → Sized (filler n ∷ [])
  unfolding Sized
  filler_sized n = (pow_pos _, tt)

  pub sheet_sized : Sized (sheet_fields edition g samples)
  unfolding sheet_fields part_fields Sized
  sheet_sized =
      let few = k.grid_given.in_range.few_axes in
      sized_append (part_fields edition g samples) (filler (bits_in (part_fields edition g samples)) ∷ []) (
        edition_fits edition t.known,
        (
          (let e : g.axes < 8 = omega arith in e),
          sized_append (axes_fields width g g.axes) (number_fields samples) (axes_sized g.axes (le_refl _))
              (numbers_sized samples held.samples_held),
        ),
      )
      (filler_sized (bits_in (part_fields edition g samples)))

-- ---- from fields to the sheet

-- the fields of the parts one by one
record PartFields (bytes : List ℕ) (edition : ℕ) (g : Grid) (samples : List Float) : Type 0 where
  first : edition_said bytes ≡ edition
  said : axes bytes ≡ g.axes
  axes_there : Stand bytes 7 (axes_fields (mode_bits bytes) g g.axes)
  samples_there : Stand bytes (7 + bits_in (axes_fields (mode_bits bytes) g g.axes)) (number_fields samples)

part_stand : (bytes : List ℕ) (edition : ℕ) (g : Grid) (samples : List Float) → Stand bytes 0 (part_fields edition g samples)
    → PartFields bytes edition g samples
unfolding Stand part_fields
part_stand bytes edition g samples s =
    let fields = axes_fields (mode_width edition) g g.axes in
    record {
      first = s.0;
      said = s.1.0;
      axes_there = rw s.0 (stand_first bytes 7 fields (number_fields samples) s.1.1);
      samples_there = rw s.0 (stand_second bytes 7 fields (number_fields samples) s.1.1);
    }

-- no bit of a run is set where its number is 0
none_set : (bytes : List ℕ) (at n : ℕ) → field bytes at n ≡ 0 → any (λ k. not (eqb (bit bytes (at + k)) 0)) n ≡ false
none_set bytes at n e = bits_set bytes at n ∙ rw e

module _ (edition : ℕ) (g : Grid) (samples : List Float) (k : Known g samples) (held : PartsHeld g samples) (t : Taken edition g)
    (bytes : List ℕ) (f : PartFields bytes edition g samples)
    (room : bits_in (part_fields edition g samples) ≤ 8 * length bytes) where
  abbrev n : ℕ
  n = g.axes

  -- the bits of the parts, in the edition that the bytes say
  parts_are : bits_in (part_fields edition g samples) ≡ 7 + bits_in (axes_fields (mode_bits bytes) g n) + 64 * length samples
  parts_are = part_bits edition g samples ∙ rw f.first

  all_there : 7 + bits_in (axes_fields (mode_bits bytes) g n) + 64 * length samples ≤ 8 * length bytes
  all_there = let e = parts_are in omega arith

  entries_read : entries bytes (axes bytes) ≡ in_use g
  entries_read = rw f.said (entries_found g samples k held bytes f.axes_there)

  knots_read : knots_below bytes (axes bytes) ≡ g.flat_knots
  knots_read =
      rw f.said
      (knots_found g samples k held bytes f.axes_there n (le_refl n)
      ∙ take_all (knots_length g) g.flat_knots (let e = k.grid_given.knots_exact in omega arith))

  size_read : (i : ℕ) → i < n → (get_or (in_use g) i unused_axis).points ≡ points g i
  size_read i l =
      let few = k.grid_given.in_range.few_axes in
      let here : cond (ltb i n) (entry g i) unused_axis ≡ entry g i = rw (lt-ltb i n l) in
      ap (λ (a : Axis). a.points) (at_table most_axes (λ j. cond (ltb j n) (entry g j) unused_axis) i unused_axis (omega arith) ∙ here)

  count_read : samples_length (sheet_grid bytes) ≡ samples_length g
  unfolding sheet_grid
  count_read = rw (entries_read, f.said) (product_ext (λ i. (get_or (in_use g) i unused_axis).points) (points g) n size_read)

  count_is : samples_length (sheet_grid bytes) ≡ length samples
  count_is = count_read ∙ sym k.samples_exact

  begin_read : samples_begin bytes ≡ 7 + bits_in (axes_fields (mode_bits bytes) g n)
  begin_read = rw f.said (begin_is g samples k held bytes f.axes_there n (le_refl n))

  samples_read : sheet_samples bytes ≡ samples
  samples_read =
      rw (begin_read, count_is)
      (numbers_read bytes (7 + bits_in (axes_fields (mode_bits bytes) g n)) samples held.samples_held f.samples_there)

  end_read : samples_end bytes ≡ bits_in (part_fields edition g samples)
  end_read = let e = parts_are in let b = begin_read in let c = count_is in omega arith

  axes_read : (sheet_grid bytes).axes ≡ n
  unfolding sheet_grid
  axes_read = f.said

  tensor_same : tensor_length (sheet_grid bytes) ≡ tensor_length g
  tensor_same = ap₂ (λ (a b : ℕ). a * 2 ^ b) count_read axes_read

  tensor_fits : tensor_refused (sheet_grid bytes) ≡ false
  tensor_fits = le-ltb 4096 (tensor_length (sheet_grid bytes)) (rw tensor_same k.grid_given.small)

  samples_long : numbers_short bytes (samples_begin bytes) (samples_length (sheet_grid bytes)) ≡ false
  samples_long =
      sym
      (short_together bytes (samples_begin bytes) (samples_length (sheet_grid bytes))
      (rw count_read (product_least (points g) n k.grid_given.in_range.some_points)))
      ∙ le-ltb (8 * length bytes) (samples_begin bytes + 64 * samples_length (sheet_grid bytes))
      (let a = all_there in let b = begin_read in let c = count_is in omega arith)

  module _ (tail : tail_refused bytes (samples_end bytes) ≡ false) where
    samples_faultless : samples_fault bytes ≡ 0
    unfolding samples_fault
    samples_faultless = rw (tensor_fits, samples_long, tail)

    no_refusal : sheet_refusal bytes ≡ 0
    no_refusal =
        let range = k.grid_given.in_range in
        let there = all_there in
        some_axes bytes (omega arith) (rw f.first t.known) (omega arith)
        ∙ rw (
          axes_allowed bytes (omega (arith, f.said, range.some_axes)) (omega (arith, f.said, range.few_axes)),
          f.said,
          no_fault g samples k held bytes f.axes_there (omega arith) n (le_refl n),
        )
        samples_faultless

    sheet_read : SheetRead bytes edition g samples
    sheet_read = record {
      taken = no_refusal;
      edition_same = f.first;
      axes_same = f.said;
      entries_same = entries_read;
      knots_same = knots_read;
      samples_same = samples_read;
    }

-- what follows the last sample: zeros, and fewer than 8
tail_passed : (bytes : List ℕ) (b : ℕ) → bits_in (filler b ∷ []) + b ≡ 8 * length bytes → Stand bytes b (filler b ∷ [])
    → tail_refused bytes b ≡ false
unfolding tail_refused bits_in Stand
tail_passed bytes b whole s =
    let left : 8 * length bytes - b ≡ (8 - b % 8) % 8 = omega arith in
    rw (left, lt-leb 8 ((8 - b % 8) % 8) (omega arith)) (none_set bytes b ((8 - b % 8) % 8) s.0)

-- where the fields of parts fill bytes, the reader accepts these and finds the parts
pub sheet_found :
    (edition : ℕ) (g : Grid) (samples : List Float) → Known g samples → PartsHeld g samples → Taken edition g → (bytes : List ℕ)
    → bits_in (sheet_fields edition g samples) ≡ 8 * length bytes
    → Stand bytes 0 (sheet_fields edition g samples)
    → SheetRead bytes edition g samples
unfolding sheet_fields
sheet_found edition g samples k held t bytes whole s =
    let parts = part_fields edition g samples in
    let b = bits_in parts in
    let last = filler b ∷ [] in
    let two = bits_in_append parts last in
    let f = part_stand bytes edition g samples (stand_first bytes 0 parts last s) in
    let room : b ≤ 8 * length bytes = omega arith in
    let zero_plus : 0 + b ≡ b = omega arith in
    let after : Stand bytes b last = subst (λ (p : ℕ). Stand bytes p last) zero_plus (stand_second bytes 0 parts last s) in
    sheet_read edition g samples k held t bytes f room
    (rw (end_read edition g samples k held t bytes f room) (tail_passed bytes b (omega arith) after))

-- the sheet of parts is accepted, and has these parts
pub read_of_sheet : (edition : ℕ) (g : Grid) (samples : List Float) → no_sheet_refusal g samples ≡ 0 → edition_refusal edition g ≡ 0
    → PartsHeld g samples
    → SheetRead (sheet_of edition g samples) edition g samples
unfolding sheet_of
read_of_sheet edition g samples e f held =
    let k = known g samples e in
    let t = taken edition g f in
    sheet_found edition g samples k held t (sheet_of edition g samples)
    (sheet_bits edition g samples ∙ (let l = sheet_length edition g samples in omega arith))
    (packed_stand (sheet_fields edition g samples) (sheet_sized edition g samples k held t))

-- ---- from the sheet to fields

module _ (bytes : List ℕ) (ok : Accepted bytes) (fine : WithoutNan (sheet_grid bytes) (sheet_samples bytes)) where
  axes_back : Stand bytes 7 (axes_fields (mode_bits bytes) (sheet_grid bytes) (sheet_grid bytes).axes)
  unfolding sheet_grid
  axes_back = axes_stand bytes ok (sheet_samples bytes) fine (axes bytes) (le_refl (axes bytes))

  begin_back : 7 + bits_in (axes_fields (mode_bits bytes) (sheet_grid bytes) (sheet_grid bytes).axes) ≡ samples_begin bytes
  unfolding sheet_grid
  begin_back = end_is bytes ok (sheet_samples bytes) fine (axes bytes) (le_refl (axes bytes))

  end_back : bits_in (part_fields (edition_said bytes) (sheet_grid bytes) (sheet_samples bytes)) ≡ samples_end bytes
  end_back =
      let a = part_bits (edition_said bytes) (sheet_grid bytes) (sheet_samples bytes) in
      let b = begin_back in
      let c = length_table (samples_length (sheet_grid bytes)) (λ k. number bytes (samples_begin bytes + 64 * k)) in omega arith

  said_back : field bytes 4 3 ≡ (sheet_grid bytes).axes
  unfolding sheet_grid
  said_back = refl

  parts_back : Stand bytes 0 (part_fields (edition_said bytes) (sheet_grid bytes) (sheet_samples bytes))
  unfolding Stand part_fields
  parts_back = (
    refl,
    (
      said_back,
      stand_append bytes 7 (axes_fields (mode_bits bytes) (sheet_grid bytes) (sheet_grid bytes).axes) (number_fields (sheet_samples bytes))
          axes_back
          (rw begin_back (numbers_stand bytes (samples_begin bytes) (samples_length (sheet_grid bytes)) fine.samples_fine)),
    ),
  )

-- what follows the last sample is what fills the last byte
tail_back : (bytes : List ℕ) (b : ℕ) → b ≤ 8 * length bytes → tail_refused bytes b ≡ false
    → (b + bits_in (filler b ∷ []) ≡ 8 * length bytes) × Stand bytes b (filler b ∷ [])
unfolding tail_refused bits_in Stand
tail_back bytes b room e =
    let both = neither _ _ e in
    let few : 8 * length bytes - b < 8 = leb-false 8 (8 * length bytes - b) both.0 in
    let left : 8 * length bytes - b ≡ (8 - b % 8) % 8 = omega arith in
    let unset : not (eqb (field bytes b (8 * length bytes - b)) 0) ≡ false = sym (bits_set bytes b (8 * length bytes - b)) ∙ both.1 in
    (omega arith, (rw left at (eqb-true (field bytes b (8 * length bytes - b)) 0 (not-false _ unset)), tt))

-- an accepted sheet without a nan is the sheet of its parts in its own edition
pub sheet_without_nan :
    (bytes : List ℕ) → Bytes bytes → sheet_refusal bytes ≡ 0 → WithoutNan (sheet_grid bytes) (sheet_samples bytes)
    → sheet_of (edition_said bytes) (sheet_grid bytes) (sheet_samples bytes) ≡ bytes
unfolding sheet_of sheet_fields
sheet_without_nan bytes all e fine =
    let ok = accepted bytes e in
    let parts = part_fields (edition_said bytes) (sheet_grid bytes) (sheet_samples bytes) in
    let last = filler (bits_in parts) ∷ [] in
    let zero_plus : 0 + bits_in parts ≡ bits_in parts = omega arith in
    let end = end_back bytes ok fine in
    let tail = tail_back bytes (bits_in parts) (rw end (samples_room bytes ok)) (rw end ok.no_more) in
    packed_of (parts ++ last) (length bytes) (bits_in_append parts last ∙ tail.0) bytes all refl
    (stand_append bytes 0 parts last (parts_back bytes ok fine) (subst (λ (p : ℕ). Stand bytes p last) (sym zero_plus) tail.1))

-- so is one whose parts have a sheet
pub sheet_of_read :
    (bytes : List ℕ) → Bytes bytes → sheet_refusal bytes ≡ 0 → no_sheet_refusal (sheet_grid bytes) (sheet_samples bytes) ≡ 0
    → sheet_of (edition_said bytes) (sheet_grid bytes) (sheet_samples bytes) ≡ bytes
sheet_of_read bytes all e none = sheet_without_nan bytes all e (without_nan (sheet_grid bytes) (sheet_samples bytes) none)
