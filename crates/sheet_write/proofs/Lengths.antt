-- How many bits the fields of axes and of a whole sheet have, and how many bytes a sheet has: at most 10,309, and the largest has them.
use mathlib.Core.Path.{◌≡◌, refl, ◌∙◌}
use mathlib.Core.List.{List, [], ◌∷◌}
use Prim.Native.Nat.{ℕ, suc, ◌+◌, ◌-◌, ◌*◌, ◌%◌}
use native.Mathlib.Omega.{arith}
use lib.ListN.{length, get_or}
use lib.Ieee.{Float}
use Rattle.rules.specs.Sizes.{unused_axis, Grid, knots}
use Rattle.rules.specs.declared.Axis.{Axis}
use Rattle.grid_codes.specs.Editions.{mode_width}
use Rattle.base_bits.specs.Written.{bits_in, number_fields, filler, bytes_for}
use Rattle.base_bits.proofs.Rows.{bits_in_append, packed_length}
use Rattle.base_bits.proofs.Numbers.{numbers_bits}
use Rattle.sheet_write.specs.SheetOf.{ends_fields, axis_fields, axes_fields, part_fields, sheet_fields, sheet_of}
use Rattle.sheet_write.specs.PartsWithRoom.{values}
use Rattle.sheet_write.proofs.Ends.{ends_bits}

pub axis_bits : (width : ℕ) (axis : Axis) (x : List Float)
    → bits_in (axis_fields width axis x) ≡ 12 + width + 64 * values axis.condition + 64 * length x
unfolding axis_fields bits_in
axis_bits width axis x =
    let a = ends_bits axis.condition in
    let b = numbers_bits x in
    let c = bits_in_append (ends_fields axis.condition) (number_fields x) in omega arith

pub axes_next : (width : ℕ) (g : Grid) (i : ℕ)
    → bits_in (axes_fields width g (suc i))
    ≡ bits_in (axes_fields width g i) + bits_in (axis_fields width (get_or g.entries i unused_axis) (knots g i))
unfolding axes_fields
axes_next width g i = bits_in_append (axes_fields width g i) (axis_fields width (get_or g.entries i unused_axis) (knots g i))

pub axes_none : (width : ℕ) (g : Grid) → bits_in (axes_fields width g 0) ≡ 0
unfolding axes_fields bits_in
axes_none width g = refl

pub part_bits : (edition : ℕ) (g : Grid) (samples : List Float)
    → bits_in (part_fields edition g samples) ≡ 7 + bits_in (axes_fields (mode_width edition) g g.axes) + 64 * length samples
unfolding part_fields bits_in
part_bits edition g samples =
    let a = bits_in_append (axes_fields (mode_width edition) g g.axes) (number_fields samples) in
    let b = numbers_bits samples in omega arith

-- the bits that fill the last byte
pub last_bits : (n : ℕ) → bits_in (filler n ∷ []) ≡ (8 - n % 8) % 8
unfolding bits_in
last_bits n = omega arith

-- a sheet fills whole bytes
pub sheet_bits : (edition : ℕ) (g : Grid) (samples : List Float)
    → bits_in (sheet_fields edition g samples) ≡ 8 * bytes_for (bits_in (part_fields edition g samples))
unfolding sheet_fields
sheet_bits edition g samples =
    let n = bits_in (part_fields edition g samples) in
    let a = bits_in_append (part_fields edition g samples) (filler n ∷ []) in
    let b = last_bits n in omega arith

pub sheet_length : (edition : ℕ) (g : Grid) (samples : List Float)
    → length (sheet_of edition g samples) ≡ bytes_for (bits_in (part_fields edition g samples))
unfolding sheet_of
sheet_length edition g samples = packed_length (sheet_fields edition g samples) ∙ (let e = sheet_bits edition g samples in omega arith)
