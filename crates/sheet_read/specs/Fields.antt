-- The chapter Fields of docs/RULES.md: the fields of a packed sheet in their order, and the parts that they are.
use Rattle.std.specs.Prelude.{cond, List, [], ◌++◌, ℕ, zero, suc, ◌+◌, ◌*◌, ltb, Float}
use Rattle.rules.specs.Numbers.{table}
use Rattle.rules.specs.Sizes.{most_axes, unused_axis, Grid, samples_length}
use Rattle.rules.specs.declared.Axis.{Axis}
use Rattle.base_bits.specs.Bits.{field, number, numbers}
use Rattle.grid_codes.specs.Kinds.{values_of_kind, end_of_kind, condition_of_kind}
use Rattle.grid_codes.specs.Modes.{mode_of_number}
use Rattle.grid_codes.specs.Editions.{mode_width}

-- the edition, the first 4 bits
abbrev pub edition : List ℕ → ℕ
edition bytes = field bytes 0 4

-- the number of axes, the next 3
abbrev pub axes : List ℕ → ℕ
axes bytes = field bytes 4 3

-- how many bits the mode of an axis has in this sheet
abbrev pub mode_bits : List ℕ → ℕ
mode_bits bytes = mode_width (edition bytes)

-- ---- the fields of the axis that begins at bit `at`

module _ (bytes : List ℕ) (at : ℕ) where
  -- its points, one more than 8 bits say
  unfoldable pub points_at : ℕ
  points_at = field bytes at 8 + 1

  -- the kind of its lower end, 2 bits
  abbrev pub lower_kind : ℕ
  lower_kind = field bytes (at + 8) 2

  -- the kind of its upper end, 2 bits
  abbrev pub upper_kind : ℕ
  upper_kind = field bytes (at + 10) 2

  -- the number of its mode, in as many bits as the edition has for it: where there are none it is 0, extend
  abbrev pub mode_said : ℕ
  mode_said = field bytes (at + 12) (mode_bits bytes)

  -- how many of the two ends have a number
  unfoldable pub values_at : ℕ
  values_at = values_of_kind lower_kind + values_of_kind upper_kind

  -- where the numbers of the ends begin: after the mode
  abbrev pub values_begin : ℕ
  values_begin = at + 12 + mode_bits bytes

  -- the number of the lower end, where it has one
  abbrev pub lower_value : Float
  lower_value = number bytes values_begin

  -- the number of the upper end, where it has one: it stands after the lower end's
  abbrev pub upper_value : Float
  upper_value = number bytes (values_begin + 64 * values_of_kind lower_kind)

  -- the axis: its points, its ends with their numbers, and its mode
  unfoldable pub axis_at : Axis
  axis_at = record {
    points = points_at;
    condition = condition_of_kind lower_kind (end_of_kind lower_kind lower_value) (end_of_kind upper_kind upper_value);
    mode = mode_of_number mode_said;
  }

  -- where its knots begin: after the numbers of the ends
  unfoldable pub knots_begin : ℕ
  knots_begin = values_begin + 64 * values_at

  -- its knots, 64 bits each
  unfoldable pub knots_at : List Float
  knots_at = numbers bytes knots_begin points_at

  -- the bit after its last knot
  unfoldable pub axis_end : ℕ
  axis_end = knots_begin + 64 * points_at

-- ---- the sheet

-- where axis i begins: the first after edition and axes, each other one after the one before it
unfoldable pub axis_begin : List ℕ → ℕ → ℕ
axis_begin bytes zero = 7
axis_begin bytes (suc i) = axis_end bytes (axis_begin bytes i)

-- the four axes, of which the first n are in use
unfoldable pub entries : List ℕ → ℕ → List Axis
entries bytes n = table most_axes (λ i. cond (ltb i n) (axis_at bytes (axis_begin bytes i)) unused_axis)

-- the knots of the first i axes, axis after axis
unfoldable pub knots_below : List ℕ → ℕ → List Float
knots_below bytes zero = []
knots_below bytes (suc i) = knots_below bytes i ++ knots_at bytes (axis_begin bytes i)

-- the sheet's grid: its axes with their ends, and all its knots
unfoldable pub sheet_grid : List ℕ → Grid
sheet_grid bytes = record { axes = axes bytes; entries = entries bytes (axes bytes); flat_knots = knots_below bytes (axes bytes) }

-- where the samples begin: after the last axis
abbrev pub samples_begin : List ℕ → ℕ
samples_begin bytes = axis_begin bytes (axes bytes)

-- the samples, 64 bits each
abbrev pub sheet_samples : List ℕ → List Float
sheet_samples bytes = numbers bytes (samples_begin bytes) (samples_length (sheet_grid bytes))

-- the bit after the last sample
abbrev pub samples_end : List ℕ → ℕ
samples_end bytes = samples_begin bytes + 64 * samples_length (sheet_grid bytes)
