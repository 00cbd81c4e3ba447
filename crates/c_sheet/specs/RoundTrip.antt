-- Reading and writing undo each other over plain slices, `hullashlar_read` and `hullashlar_write` as `read` and `write` do.
-- What the statements speak of, and the statements. proofs/RoundTrip.antt proves them.
--
-- 1. Two sheets that are read to the same parts are one, if these pass the build's checks.
-- 2. What is written is read back, all parts of it.
-- 3. A sheet that is read, and whose parts pass the checks, is written back, byte by byte.
use Rattle.std.specs.Prelude.{◌≡◌, cond, List, [], ◌∷◌, ℕ, ◌/◌, ◌≤◌, T, ltb, length, get_or, take, Float}
use Rattle.std.specs.Float.{binary64}
use Rattle.std.specs.Float.Ieee.{fits}
use Rattle.rules.specs.Numbers.{plus_zero, at, table}
use Rattle.rules.specs.Sizes.{most_axes, Grid, knots_length, samples_length}
use Rattle.base_bits.proofs.Writes.{Bytes}
use Rattle.grid_codes.specs.Ranges.{among}
use Rattle.sheet_read.specs.Read.{buffer_length, over}
use Rattle.sheet_write.specs.Write.{no_sheet_refusal}
use Rattle.c_axes.specs.Axes.{eight_ends}
use Rattle.c_refusals.specs.OwnRefusals.{sizes_given}
use Rattle.c_sheet.specs.SheetExports.{ReadExport, WriteExport, grid_with_modes}

-- ---- what the statements speak of

-- the slices that `hullashlar_read` is lent, or what stands in them afterwards
pub record Slices : Type 0 where
  pub knots : List Float
  pub samples : List Float
  pub axes : List ℕ
  pub points : List ℕ
  pub kinds : List ℕ
  pub values : List Float
  pub modes : List ℕ
  pub edition : List ℕ

-- a call of it
abbrev pub ReadTo : List ℕ → Slices → ℕ → Slices → Type 0
ReadTo bytes lent refusal later =
    ReadExport bytes lent.knots lent.samples lent.axes lent.points lent.kinds lent.values lent.modes lent.edition
    refusal later.knots later.samples later.axes later.points later.kinds later.values later.modes later.edition

-- slices of the lengths that it asks for
pub record Lengths (lent : Slices) : Type 0 where
  pub knots_long : length lent.knots ≡ buffer_length
  pub samples_long : length lent.samples ≡ buffer_length
  pub one_axes : length lent.axes ≡ 1
  pub four_points : length lent.points ≡ most_axes
  pub eight_kinds : length lent.kinds ≡ eight_ends
  pub eight_values : length lent.values ≡ eight_ends
  pub four_modes : length lent.modes ≡ most_axes
  pub one_edition : length lent.edition ≡ 1

-- the parts of a sheet that `hullashlar_write` is given
pub record Parts : Type 0 where
  pub axes : ℕ
  pub points : List ℕ
  pub kinds : List ℕ
  pub values : List Float
  pub modes : List ℕ
  pub knots : List Float
  pub samples : List Float
  pub edition : ℕ

-- a call of it, with a buffer for the bytes and a slot for their number
abbrev pub WriteFrom : Parts → List ℕ → List ℕ → ℕ → List ℕ → List ℕ → Type 0
WriteFrom parts =
    WriteExport parts.axes parts.points parts.kinds parts.values parts.modes parts.knots parts.samples parts.edition

-- the grid that the parts make, and what the build's checks refuse of it and its samples
abbrev pub grid_of : Parts → Grid
grid_of parts = grid_with_modes parts.axes parts.points parts.kinds parts.values parts.modes parts.knots

abbrev pub parts_refusal : Parts → ℕ
parts_refusal parts = no_sheet_refusal (grid_of parts) parts.samples

-- binary64 holds each number of them, as it does all that a call is given
pub record NumbersHeld (parts : Parts) : Type 0 where
  pub values_held : (k : ℕ) → T (fits binary64 (at parts.values k))
  pub knots_held : (k : ℕ) → T (fits binary64 (at parts.knots k))
  pub samples_held : (k : ℕ) → T (fits binary64 (at parts.samples k))

-- the number in a slot of one
abbrev pub in_place : List ℕ → ℕ
in_place slot = get_or slot 0 0

-- the parts that a read handed over: knots and samples are the first in their buffers, as many as the points say
abbrev pub parts_of : Slices → Parts
parts_of read = record {
  axes = in_place read.axes;
  points = read.points;
  kinds = read.kinds;
  values = read.values;
  modes = read.modes;
  knots = take (knots_length (sizes_given (in_place read.axes) read.points)) read.knots;
  samples = take (samples_length (sizes_given (in_place read.axes) read.points)) read.samples;
  edition = in_place read.edition;
}

-- the value of an end: +0.0 where its kind has none
abbrev pub value_told : ℕ → Float → Float
value_told kind value = cond (among 1 2 kind) value plus_zero

-- the slices with these parts in them: of axes not in use all is 0
abbrev pub filled : Parts → Slices → Slices
filled parts lent = record {
  knots = over parts.knots lent.knots;
  samples = over parts.samples lent.samples;
  axes = parts.axes ∷ [];
  points = table most_axes (λ i. cond (ltb i parts.axes) (get_or parts.points i 0) 0);
  kinds = table eight_ends (λ j. cond (ltb (j / 2) parts.axes) (get_or parts.kinds j 0) 0);
  values = table eight_ends (λ j. cond (ltb (j / 2) parts.axes) (value_told (get_or parts.kinds j 0) (at parts.values j)) plus_zero);
  modes = table most_axes (λ i. cond (ltb i parts.axes) (get_or parts.modes i 0) 0);
  edition = parts.edition ∷ [];
}

-- ---- the statements

-- 1: the slices were lent with any contents
abbrev pub OneSheet : Type 0
OneSheet =
    (bytes other : List ℕ) → Bytes bytes → Bytes other
    → (lent read : Slices) → ReadTo bytes lent 0 read
    → (lent' read' : Slices) → ReadTo other lent' 0 read'
    → parts_of read ≡ parts_of read'
    → parts_refusal (parts_of read) ≡ 0
    → bytes ≡ other

-- 2: the bytes that were left, as many as the slot says, are not refused where the slices have their lengths
abbrev pub ReadBack : Type 0
ReadBack =
    (parts : Parts) → NumbersHeld parts
    → (buffer slot b l : List ℕ) → WriteFrom parts buffer slot 0 b l
    → (lent : Slices) → Lengths lent
    → (refusal : ℕ) (read : Slices) → ReadTo (take (in_place l) b) lent refusal read
    → (refusal ≡ 0) × (read ≡ filled parts lent)

-- 3: the write is not refused where the bytes have room; those past them stay
abbrev pub WrittenBack : Type 0
WrittenBack =
    (bytes : List ℕ) → Bytes bytes
    → (lent read : Slices) → ReadTo bytes lent 0 read
    → parts_refusal (parts_of read) ≡ 0
    → (buffer slot : List ℕ) → length bytes ≤ length buffer → length slot ≡ 1
    → (refusal : ℕ) (b l : List ℕ) → WriteFrom (parts_of read) buffer slot refusal b l
    → (refusal ≡ 0) × (b ≡ over bytes buffer) × (l ≡ length bytes ∷ [])
