-- What the functions that are no public calls require: parts that have a sheet, with numbers that are finite, and room for their fields.
use Rattle.std.specs.Prelude.{◌≡◌, false, List, ℕ, ◌+◌, ◌-◌, ◌*◌, ◌<◌, ◌≤◌, length, Float}
use Rattle.rules.specs.Sizes.{
  most_axes,
  fewest_on_an_axis,
  most_on_an_axis,
  Grid,
  points,
  condition,
  sum_below,
  knots_length,
  samples_length,
}
use Rattle.rules.specs.Outside.{mode_number}
use Rattle.rules.specs.Refusals.{some_number_refused, ends_refused}
use Rattle.rules.specs.declared.Axis.{Axis}
use Rattle.rules.specs.declared.Condition.{Condition}
use Rattle.grid.specs.GridOfCall.{sizes_of, condition_of}
use Rattle.grid_codes.specs.Kinds.{values_of_kind, lower_kind_of, upper_kind_of}
use Rattle.grid_codes.specs.Editions.{mode_width}
use Rattle.base_bits.specs.BitsThere.{Within}
use Rattle.base_bits.specs.Written.{with_field, bits_in}
use Rattle.sheet_write.specs.SheetOf.{axis_fields, axes_fields, sheet_fields}

-- the fields that an axis has before its numbers, and room for them from bit `at` on
pub record HeadGiven (bytes : List ℕ) (at width : ℕ) (axis : Axis) : Type 0 where
  pub narrow : width ≤ 2
  pub some_points : 1 ≤ axis.points
  pub within : Within bytes at (12 + width)

-- these fields, one after the other
abbrev pub with_head : List ℕ → ℕ → ℕ → Axis → List ℕ
with_head bytes at width axis =
    with_field
    (with_field (with_field (with_field bytes at 8 (axis.points - 1)) (at + 8) 2 (lower_kind_of axis.condition)) (at + 10) 2
    (upper_kind_of axis.condition))
    (at + 12) width (mode_number axis.mode)

-- an axis and its knots, and room for them from bit `at` on
pub record AxisGiven (bytes : List ℕ) (at width : ℕ) (axis : Axis) (x : List Float) : Type 0 where
  pub narrow : width ≤ 2
  pub some_points : 1 ≤ axis.points
  pub finite_ends : ends_refused axis.condition ≡ false
  pub finite_knots : some_number_refused x ≡ false
  pub within : Within bytes at (bits_in (axis_fields width axis x))

-- a grid whose fields can be written: few axes, points that fit their field, knots for each point, and finite numbers
pub record FieldsGiven (g : Grid) : Type 0 where
  pub few : g.axes ≤ most_axes
  pub some_points : (i : ℕ) → i < g.axes → fewest_on_an_axis ≤ points g i
  pub few_points : (i : ℕ) → i < g.axes → points g i ≤ most_on_an_axis
  pub knots_exact : length g.flat_knots ≡ knots_length g
  pub finite_ends : (i : ℕ) → i < g.axes → ends_refused (condition g i) ≡ false
  pub finite_knots : some_number_refused g.flat_knots ≡ false

-- its axes, and room for them from bit 7 on
pub record AxesGiven (bytes : List ℕ) (width : ℕ) (g : Grid) : Type 0 where
  pub narrow : width ≤ 2
  pub fields : FieldsGiven g
  pub within : Within bytes 7 (bits_in (axes_fields width g g.axes))

-- all of a sheet, and room for it
pub record SheetGiven (bytes : List ℕ) (edition : ℕ) (g : Grid) (samples : List Float) : Type 0 where
  pub fields : FieldsGiven g
  pub finite_samples : some_number_refused samples ≡ false
  pub within : Within bytes 0 (bits_in (sheet_fields edition g samples))

-- ---- how many bits the parts have

-- how many of the two ends of a condition have a number
abbrev pub values : Condition → ℕ
values c = values_of_kind (lower_kind_of c) + values_of_kind (upper_kind_of c)

-- so of the first i axes together
abbrev pub values_below : List Axis → ℕ → ℕ
values_below entries = sum_below (λ i. values (condition_of entries i))

-- edition and number of axes, the axes, the samples
unfoldable pub parts_bits : ℕ → ℕ → List Axis → ℕ
parts_bits edition axes entries =
    7 + 12 * axes + mode_width edition * axes
    + 64 * (values_below entries axes + knots_length (sizes_of axes entries) + samples_length (sizes_of axes entries))
