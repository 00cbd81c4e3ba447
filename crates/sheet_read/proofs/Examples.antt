-- The example sheet, which docs/RULES.md takes apart, in both editions, the empty one, and for each fault a sheet that has it: the rows of
-- one theorem about the definitions.
use mathlib.Core.Path.{◌≡◌, refl}
use mathlib.Core.List.{List, [], ◌∷◌, ◌++◌}
use Prim.Native.Nat.{ℕ}
use lib.ListN.{replicate}
use lib.Ieee.{binary64, of_bits}
use Rattle.rules.specs.Numbers.{plus_zero, one, any}
use Rattle.rules.specs.Ends.{natural}
use Rattle.rules.specs.Sizes.{unused_axis, Grid, product_below}
use Rattle.rules.specs.declared.Mode.{Mode}
use Rattle.rules.specs.declared.Mode.TheVariants.{Extend, Hold, Refuse}
use Rattle.base_bits.specs.Bits.{bit, field}
use Rattle.grid_codes.specs.Kinds.{values_of_kind, end_of_kind, condition_of_kind, periodic_at_one_end}
use Rattle.grid_codes.specs.Modes.{mode_of_number}
use Rattle.grid_codes.specs.Editions.{unknown_edition, mode_width}
use Rattle.sheet_read.specs.Fields.{
  points_at,
  values_at,
  axis_at,
  knots_begin,
  knots_at,
  axis_end,
  axis_begin,
  entries,
  knots_below,
  sheet_grid,
  sheet_samples,
}
use Rattle.sheet_read.specs.Faults.{axis_fault, axes_fault, tail_refused, samples_fault, sheet_refusal, edition_1_refusal}

abbrev pub zero_bytes : ℕ → List ℕ
zero_bytes n = replicate n 0

-- the example sheet: of its 403 bits the first 400, and then with the byte of the last 3
abbrev pub first_bytes : List ℕ
first_bytes = 0x12 ∷ 0x03 ∷ 0x40 ∷ zero_bytes 23 ++ (0x07 ∷ 0xFE ∷ zero_bytes 14) ++ (0x07 ∷ 0xFE ∷ zero_bytes 6)

abbrev pub example : List ℕ
example = first_bytes ++ (0x00 ∷ [])

-- the example sheet in edition 2, with the byte that has the mode
abbrev pub second_edition : ℕ → List ℕ
second_edition mode = 0x22 ∷ 0x03 ∷ mode ∷ zero_bytes 23 ++ (0x01 ∷ 0xFF ∷ 0x80 ∷ zero_bytes 13) ++ (0x01 ∷ 0xFF ∷ 0x80 ∷ zero_bytes 6)

-- its grid with a mode
abbrev line : Mode → Grid
line mode = record {
  axes = 1;
  entries = record { points = 2; condition = natural; mode = mode } ∷ unused_axis ∷ unused_axis ∷ unused_axis ∷ [];
  flat_knots = plus_zero ∷ one ∷ [];
}

-- three axes of two points in edition 2, up to the first of the two bits of the last axis's mode
abbrev three_axes : List ℕ
three_axes = 0x26 ∷ 0x02 ∷ zero_bytes 17 ++ (0x08 ∷ zero_bytes 17) ++ (0x21 ∷ [])

-- two axes of 25 and of 41 points, all knots zero
abbrev large : List ℕ
large = 0x14 ∷ 0x30 ∷ zero_bytes 200 ++ (0x05 ∷ zero_bytes 329)

pub record Examples : Type 0 where
  pub accepted : sheet_refusal example ≡ 0
  pub grid : sheet_grid example ≡ line Extend
  pub samples : sheet_samples example ≡ plus_zero ∷ one ∷ []
  -- where there is no bit, the first field is short
  pub empty : sheet_refusal [] ≡ 11
  pub edition_zero : sheet_refusal (0x02 ∷ []) ≡ 12
  pub edition_three : sheet_refusal (0x32 ∷ []) ≡ 12
  pub no_axes : sheet_refusal (0x10 ∷ []) ≡ 1
  pub five_axes : sheet_refusal (0x1A ∷ []) ≡ 1
  pub one_point : sheet_refusal (0x12 ∷ 0x00 ∷ []) ≡ 2
  pub points_cut : sheet_refusal (0x12 ∷ []) ≡ 11
  pub upper_kind_cut : sheet_refusal (0x12 ∷ 0x03 ∷ []) ≡ 11
  -- 13 stands before the end values and the knots, of which there are none
  pub lower_periodic : sheet_refusal (0x12 ∷ 0x03 ∷ 0x80 ∷ []) ≡ 13
  pub upper_periodic : sheet_refusal (0x12 ∷ 0x02 ∷ 0x60 ∷ []) ≡ 13
  pub twice_periodic : sheet_refusal (0x12 ∷ 0x03 ∷ 0xE0 ∷ []) ≡ 11
  -- 3 stands before the samples, of which there are none
  pub too_large : sheet_refusal large ≡ 3
  -- edition 2: the mode stands after the kinds, and all else two bits later
  pub edition_2_accepted : sheet_refusal (second_edition 0x40) ≡ 0
  pub extended : sheet_grid (second_edition 0x40) ≡ line Extend
  pub held : sheet_grid (second_edition 0x48) ≡ line Hold
  pub refusing : sheet_grid (second_edition 0x50) ≡ line Refuse
  pub edition_2_samples : sheet_samples (second_edition 0x48) ≡ plus_zero ∷ one ∷ []
  pub no_mode : sheet_refusal (second_edition 0x58) ≡ 22
  -- 22 stands after 13, and before the end values and the knots
  pub kinds_first : sheet_refusal (0x22 ∷ 0x03 ∷ 0x98 ∷ []) ≡ 13
  pub mode_then : sheet_refusal (0x22 ∷ 0x03 ∷ 0x58 ∷ []) ≡ 22
  pub mode_cut : sheet_refusal three_axes ≡ 11
  pub mode_whole : sheet_refusal (three_axes ++ (0x80 ∷ [])) ≡ 22
  -- for the reader of edition 1 it is another edition
  pub edition_1_reader : edition_1_refusal example ≡ 0
  pub edition_2_refused : edition_1_refusal (second_edition 0x40) ≡ 12
  pub last_byte_cut : sheet_refusal first_bytes ≡ 11
  pub byte_after : sheet_refusal (example ++ (0x00 ∷ [])) ≡ 14
  pub last_bit_set : sheet_refusal (first_bytes ++ (0x01 ∷ [])) ≡ 14
  -- the last bit of the last sample is read as such
  pub last_sample : sheet_samples (first_bytes ++ (0x20 ∷ [])) ≡ plus_zero ∷ of_bits binary64 0x3FF0_0000_0000_0001 ∷ []

pub examples : Examples
unfolding any product_below bit field values_of_kind end_of_kind condition_of_kind periodic_at_one_end mode_of_number unknown_edition
    mode_width points_at values_at axis_at knots_begin knots_at axis_end axis_begin entries knots_below sheet_grid axis_fault axes_fault
    tail_refused samples_fault sheet_refusal edition_1_refusal
examples = record {
  accepted = refl;
  grid = refl;
  samples = refl;
  empty = refl;
  edition_zero = refl;
  edition_three = refl;
  no_axes = refl;
  five_axes = refl;
  one_point = refl;
  points_cut = refl;
  upper_kind_cut = refl;
  lower_periodic = refl;
  upper_periodic = refl;
  twice_periodic = refl;
  too_large = refl;
  edition_2_accepted = refl;
  extended = refl;
  held = refl;
  refusing = refl;
  edition_2_samples = refl;
  no_mode = refl;
  kinds_first = refl;
  mode_then = refl;
  mode_cut = refl;
  mode_whole = refl;
  edition_1_reader = refl;
  edition_2_refused = refl;
  last_byte_cut = refl;
  byte_after = refl;
  last_bit_set = refl;
  last_sample = refl;
}
