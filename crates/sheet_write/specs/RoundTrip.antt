-- Reading and writing undo each other, in each edition: what the statements speak of, and the statements. proofs/RoundTrip.antt proves
-- them.
--
-- 1. An input that passes the build's checks has one sheet: it is accepted and has these parts, and no other list of bytes is and has.
-- 2. So two sheets of one edition with the same parts are one, if these pass the checks: of the definitions, and of two reads.
-- 3. What is written is read back, all parts of it.
-- 4. An accepted sheet whose parts pass the checks is written back in its own edition, byte by byte.
--
-- The checks are those of `no_sheet_refusal`: the build's but for 5 and 10, which have no meaning here.
-- They cannot be left out of 2 and 4: every pattern of a NaN is read as the one NaN, so two sheets may have the same parts.
-- Such parts do not pass: a NaN is refused by 7.
use Rattle.std.specs.Prelude.{◌≡◌, cond, List, ℕ, ◌<◌, ◌≤◌, T, ltb, length, get_or, take, Float}
use Rattle.std.specs.Float.{binary64}
use Rattle.std.specs.Float.Ieee.{fits}
use Rattle.rules.specs.Numbers.{table}
use Rattle.rules.specs.Sizes.{most_axes, unused_axis, Grid, condition, knots_length, samples_length}
use Rattle.rules.specs.declared.End.{End}
use Rattle.rules.specs.declared.End.TheVariants.{NotAKnot, FirstDerivative, SecondDerivative}
use Rattle.rules.specs.declared.Condition.{Condition}
use Rattle.rules.specs.declared.Condition.TheVariants.{Endpoints, Periodic}
use Rattle.rules.specs.declared.Axis.{Axis}
use Rattle.grid.specs.GridOfCall.{grid, sizes_of}
use Rattle.base_bits.proofs.Writes.{Bytes}
use Rattle.base_bits.proofs.Numbers.{Held}
use Rattle.sheet_read.specs.Fields.{edition as edition_said, axes, entries, knots_below, sheet_grid, sheet_samples}
use Rattle.sheet_read.specs.Faults.{sheet_refusal}
use Rattle.sheet_read.specs.Read.{buffer_length, over, ReadPromise, ReadAnswer}
use Rattle.sheet_write.specs.SheetOf.{sheet_of}
use Rattle.sheet_write.specs.Write.{no_sheet_refusal, edition_refusal, WritePromise, WriteAnswer}

-- ---- what the statements speak of

-- binary64 holds the number of an end, and those of both ends of an axis
abbrev pub EndHeld : End → Type 0
EndHeld NotAKnot = Unit {0}
EndHeld (FirstDerivative value) = T (fits binary64 value)
EndHeld (SecondDerivative value) = T (fits binary64 value)

abbrev pub EndsHeld : Condition → Type 0
EndsHeld (Endpoints lower upper) = EndHeld lower × EndHeld upper
EndsHeld Periodic = Unit {0}

-- binary64 holds each number of the parts, as it does all that a call is given
pub record PartsHeld (g : Grid) (samples : List Float) : Type 0 where
  pub knots_held : Held g.flat_knots
  pub samples_held : Held samples
  pub ends_held : (i : ℕ) → i < g.axes → EndsHeld (condition g i)

-- an entry of the four
abbrev pub entry : Grid → ℕ → Axis
entry g i = get_or g.entries i unused_axis

-- the four axes as a reader answers them: those in use, and the others as not in use
abbrev pub in_use : Grid → List Axis
in_use g = table most_axes (λ i. cond (ltb i g.axes) (entry g i) unused_axis)

-- bytes that are accepted, and have this edition and these parts
pub record SheetRead (bytes : List ℕ) (edition : ℕ) (g : Grid) (samples : List Float) : Type 0 where
  pub taken : sheet_refusal bytes ≡ 0
  pub edition_same : edition_said bytes ≡ edition
  pub axes_same : axes bytes ≡ g.axes
  pub entries_same : entries bytes (axes bytes) ≡ in_use g
  pub knots_same : knots_below bytes (axes bytes) ≡ g.flat_knots
  pub samples_same : sheet_samples bytes ≡ samples

-- the parts that a read gave: the axes of its answer with the knots in the first places of their buffer, and the samples in those of theirs
abbrev pub knots_read : ReadAnswer → List Float → List Float
knots_read r k = take (knots_length (sizes_of r.axes r.all)) k

abbrev pub grid_read : ReadAnswer → List Float → Grid
grid_read r k = grid r.axes r.all (knots_read r k)

abbrev pub samples_read : ReadAnswer → List Float → List Float
samples_read r s = take (samples_length (sizes_of r.axes r.all)) s

-- ---- the statements

-- 1, in an edition that is not refused
abbrev pub HasOneSheet : Type 0
HasOneSheet =
    (edition : ℕ) (g : Grid) (samples : List Float) → PartsHeld g samples
    → no_sheet_refusal g samples ≡ 0
    → edition_refusal edition g ≡ 0
    → Bytes (sheet_of edition g samples)
    × SheetRead (sheet_of edition g samples) edition g samples
    × ((bytes : List ℕ) → Bytes bytes → SheetRead bytes edition g samples → bytes ≡ sheet_of edition g samples)

-- 2, of the definitions
abbrev pub OneSheet : Type 0
OneSheet =
    (bytes other : List ℕ) → Bytes bytes → Bytes other
    → sheet_refusal bytes ≡ 0
    → sheet_refusal other ≡ 0
    → edition_said bytes ≡ edition_said other
    → sheet_grid bytes ≡ sheet_grid other
    → sheet_samples bytes ≡ sheet_samples other
    → no_sheet_refusal (sheet_grid bytes) (sheet_samples bytes) ≡ 0
    → bytes ≡ other

-- 2, of two reads with the same answer and the same numbers in the first places of the buffers; what stands behind these may differ
abbrev pub OneSheetRead : Type 0
OneSheetRead =
    (bytes other : List ℕ) → Bytes bytes → Bytes other
    → (r : ReadAnswer) → r.refusal ≡ 0
    → (knots_lent samples_lent k s : List Float) → ReadPromise bytes knots_lent samples_lent r k s
    → (knots_lent' samples_lent' k' s' : List Float) → ReadPromise other knots_lent' samples_lent' r k' s'
    → knots_read r k ≡ knots_read r k'
    → samples_read r s ≡ samples_read r s'
    → no_sheet_refusal (grid_read r k) (samples_read r s) ≡ 0
    → bytes ≡ other

-- 3: the write is accepted where the sheet has room, and so is the read of the bytes that it says; axes not in use come back as such
abbrev pub ReadBack : Type 0
ReadBack =
    (edition : ℕ) (g : Grid) (samples : List Float) → PartsHeld g samples
    → no_sheet_refusal g samples ≡ 0
    → edition_refusal edition g ≡ 0
    → (buffer : List ℕ) → length (sheet_of edition g samples) ≤ length buffer
    → (a : WriteAnswer) (b : List ℕ) → WritePromise edition g samples buffer a b
    → (knots_lent samples_lent : List Float) → length knots_lent ≡ buffer_length → length samples_lent ≡ buffer_length
    → (r : ReadAnswer) (k s : List Float) → ReadPromise (take a.length b) knots_lent samples_lent r k s
    → (a.refusal ≡ 0)
    × (r ≡ record { refusal = 0; edition = edition; axes = g.axes; all = in_use g })
    × (k ≡ over g.flat_knots knots_lent)
    × (s ≡ over samples samples_lent)

-- 4: the write is accepted where the bytes have room, answers their length, and leaves each as it was; those past them stay
abbrev pub WrittenBack : Type 0
WrittenBack =
    (bytes : List ℕ) → Bytes bytes
    → (knots_lent samples_lent : List Float) (r : ReadAnswer) (k s : List Float) → ReadPromise bytes knots_lent samples_lent r k s
    → r.refusal ≡ 0 → no_sheet_refusal (grid_read r k) (samples_read r s) ≡ 0
    → (buffer : List ℕ) → length bytes ≤ length buffer
    → (a : WriteAnswer) (b : List ℕ) → WritePromise r.edition (grid_read r k) (samples_read r s) buffer a b
    → (a.refusal ≡ 0) × (a.length ≡ length bytes) × (b ≡ over bytes buffer)
