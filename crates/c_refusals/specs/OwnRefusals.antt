-- The chapter OwnRefusals of docs/RULES.md: what the host itself refuses of curves, tensors, queries and sheets, in one order; what it
-- refuses of steps and of the device stands in StepExports and DeviceExports. A call with axes refuses by 1 for their number alone, by 4
-- for points that are not four, by 2, by 3, by 4 for every other slice and slot, by 13 for the kinds of the axes in use, and by 22 for
-- their modes; a call on one axis by 2, 4 and 13; a call that reads a sheet by 4 alone. Each table has the rows of this order down to where
-- the call's own refusals may follow.
use Rattle.std.specs.Prelude.{Bool, cond, ◌||◌, List, [], ◌∷◌, ◌++◌, ℕ, length, Float}
use Rattle.rules.specs.Sizes.{most_axes, Grid, knots_length, samples_length, tensor_length}
use Rattle.rules.specs.Refusals.{axes_refused, points_refused, some_points_refused, tensor_refused, length_refused}
use Rattle.grid_checks.specs.Tables.{Refusal, row, lowest}
use Rattle.grid_codes.specs.Kinds.{kinds_refused}
use Rattle.c_axes.specs.Axes.{two_ends, eight_ends, lower_kind, upper_kind, some_kinds_refused, some_modes_refused, grid_without_ends}

-- ---- the curve's moments

-- 4 for the kinds and the values of two ends
abbrev pub two_ends_refused : List ℕ → List Float → Bool
two_ends_refused kinds values = length_refused (length kinds) two_ends || length_refused (length values) two_ends

module _ (n : ℕ) (knots samples : List Float) (kinds : List ℕ) (values moments_lent : List Float) where
  -- 4 for the two ends and for the call's own slices
  abbrev pub moments_own_rows : List Refusal
  moments_own_rows =
      row 2 (points_refused n)
      ∷ row 4 (
      two_ends_refused kinds values
      || (length_refused (length knots) n || length_refused (length samples) n || length_refused (length moments_lent) n)
      )
      ∷ row 13 (kinds_refused (lower_kind kinds 0) (upper_kind kinds 0))
      ∷ []

  unfoldable pub moments_own_refusal : ℕ
  moments_own_refusal = lowest moments_own_rows 0

-- ---- the curve's value

-- 4 for the slot of the value
abbrev pub curve_own_rows : ℕ → List Float → List Refusal
curve_own_rows n value = row 2 (points_refused n) ∷ row 4 (length_refused (length value) 1) ∷ []

unfoldable pub curve_own_refusal : ℕ → List Float → ℕ
curve_own_refusal n value = lowest (curve_own_rows n value) 0

-- ---- the calls with axes

-- the sizes that are given: ends play no part in them
abbrev pub sizes_given : ℕ → List ℕ → Grid
sizes_given axes points = grid_without_ends axes points []

-- what every one of them meets first
abbrev pub axes_rows : ℕ → List ℕ → List Refusal
axes_rows axes points =
    row 1 (axes_refused (sizes_given axes points))
    ∷ row 4 (length_refused (length points) most_axes)
    ∷ row 2 (some_points_refused (sizes_given axes points))
    ∷ row 3 (tensor_refused (sizes_given axes points))
    ∷ []

unfoldable pub axes_own_refusal : ℕ → List ℕ → ℕ
axes_own_refusal axes points = lowest (axes_rows axes points) 0

-- 4 for the kinds and the values of the ends of four axes
abbrev pub eight_ends_refused : List ℕ → List Float → Bool
eight_ends_refused kinds values = length_refused (length kinds) eight_ends || length_refused (length values) eight_ends

-- ---- the build

module _ (axes : ℕ) (points kinds : List ℕ) (values knots samples tensor_lent : List Float) where
  -- 4 for the ends and for the call's own slices
  abbrev pub build_own_rows : List Refusal
  build_own_rows =
      axes_rows axes points ++ (
      row 4 (
      eight_ends_refused kinds values
      || (
      length_refused (length knots) (knots_length (sizes_given axes points))
      || length_refused (length samples) (samples_length (sizes_given axes points))
      || length_refused (length tensor_lent) (tensor_length (sizes_given axes points))
      )
      )
      ∷ row 13 (some_kinds_refused axes kinds)
      ∷ []
      )

  unfoldable pub build_own_refusal : ℕ
  build_own_refusal = lowest build_own_rows 0

-- ---- the change

-- 4 for the place and the slot of the count
abbrev pub place_or_lanes_refused : List ℕ → List ℕ → Bool
place_or_lanes_refused place lanes = length_refused (length place) most_axes || length_refused (length lanes) 1

module _ (axes : ℕ) (points kinds : List ℕ) (values knots tensor_lent : List Float) (place lanes_lent : List ℕ) where
  -- 4 for the ends, the place, the slot of the count and for the call's own slices
  abbrev pub change_own_rows : List Refusal
  change_own_rows =
      axes_rows axes points ++ (
      row 4 (
      eight_ends_refused kinds values || place_or_lanes_refused place lanes_lent
      || (
      length_refused (length knots) (knots_length (sizes_given axes points))
      || length_refused (length tensor_lent) (tensor_length (sizes_given axes points))
      )
      )
      ∷ row 13 (some_kinds_refused axes kinds)
      ∷ []
      )

  unfoldable pub change_own_refusal : ℕ
  change_own_refusal = lowest change_own_rows 0

-- ---- the writer

-- 4 for the modes of four axes, and for a slot of one number
abbrev pub modes_or_slot_refused : List ℕ → List ℕ → Bool
modes_or_slot_refused modes slot = length_refused (length modes) most_axes || length_refused (length slot) 1

module _ (axes : ℕ) (points kinds : List ℕ) (values : List Float) (modes : List ℕ) (knots samples : List Float) (length_lent : List ℕ) where
  -- 4 for the ends, the modes, the slot of the length and for the call's own slices; the modes are judged after the kinds
  abbrev pub write_own_rows : List Refusal
  write_own_rows =
      axes_rows axes points ++ (
      row 4 (
      eight_ends_refused kinds values || modes_or_slot_refused modes length_lent
      || (
      length_refused (length knots) (knots_length (sizes_given axes points))
      || length_refused (length samples) (samples_length (sizes_given axes points))
      )
      )
      ∷ row 13 (some_kinds_refused axes kinds)
      ∷ row 22 (some_modes_refused axes modes)
      ∷ []
      )

  unfoldable pub write_own_refusal : ℕ
  write_own_refusal = lowest write_own_rows 0

-- ---- the query

-- 4 for the slots of value and labels
abbrev pub query_slots_refused : List Float → List ℕ → Bool
query_slots_refused value labels = length_refused (length value) 1 || length_refused (length labels) most_axes

-- 4 for the modes of four axes, and for these slots
abbrev pub modes_or_slots_refused : List ℕ → List Float → List ℕ → Bool
modes_or_slots_refused modes value labels = length_refused (length modes) most_axes || query_slots_refused value labels

module _ (axes : ℕ) (points modes : List ℕ) (knots tensor coordinates value : List Float) (labels : List ℕ) where
  -- what a query meets after its axes: 4 for the modes, the slots and for the call's own slices, and 22
  abbrev pub query_later_rows : List Refusal
  query_later_rows =
      row 4 (
      modes_or_slots_refused modes value labels
      || (
      length_refused (length knots) (knots_length (sizes_given axes points))
      || length_refused (length tensor) (tensor_length (sizes_given axes points))
      || length_refused (length coordinates) axes
      )
      )
      ∷ row 22 (some_modes_refused axes modes)
      ∷ []

  abbrev pub query_own_rows : List Refusal
  query_own_rows = axes_rows axes points ++ query_later_rows

  unfoldable pub query_own_refusal : ℕ
  query_own_refusal = lowest query_own_rows 0

  -- ---- the query of even axes

  -- 4 for its third slot, too, of what is told of an axis that is not even
  abbrev pub even_query_own_rows : List ℕ → List Refusal
  even_query_own_rows uneven = axes_rows axes points ++ (row 4 (length_refused (length uneven) 2) ∷ query_later_rows)

  unfoldable pub even_query_own_refusal : List ℕ → ℕ
  even_query_own_refusal uneven = lowest (even_query_own_rows uneven) 0

-- ---- the sheet

-- 4 for the slot of the number of axes, and for the slices of what is found of them
abbrev pub found_slots_refused : List ℕ → List ℕ → List ℕ → List Float → Bool
found_slots_refused axes points kinds values =
    length_refused (length axes) 1 || length_refused (length points) most_axes || eight_ends_refused kinds values

-- the reader of edition 1 finds no more than these
unfoldable pub read_edition_1_own_refusal : List ℕ → List ℕ → List ℕ → List Float → ℕ
read_edition_1_own_refusal axes points kinds values = cond (found_slots_refused axes points kinds values) 4 0

-- the reader finds modes too, and an edition for its slot
unfoldable pub read_own_refusal : List ℕ → List ℕ → List ℕ → List Float → List ℕ → List ℕ → ℕ
read_own_refusal axes points kinds values modes edition =
    cond (found_slots_refused axes points kinds values || modes_or_slot_refused modes edition) 4 0

-- ---- the sheet's tensor

-- 4 for the same slots, and for that of the length
unfoldable pub sheet_tensor_own_refusal : List ℕ → List ℕ → List ℕ → List Float → List ℕ → List ℕ → List ℕ → ℕ
sheet_tensor_own_refusal axes points kinds values modes edition length_lent =
    cond (found_slots_refused axes points kinds values || modes_or_slot_refused modes edition || length_refused (length length_lent) 1) 4 0
