-- Streams by computation: no bytes, a sheet that ends too soon, and one that stops the report by its last bit, whatever stands behind it.
use mathlib.Core.Path.{◌≡◌, refl}
use mathlib.Core.Bool.{true, false}
use mathlib.Core.List.{[], ◌∷◌, ◌++◌}
use Rattle.rules.specs.Numbers.{any}
use Rattle.rules.specs.Sizes.{product_below}
use Rattle.base_bits.specs.Bits.{bit, field}
use Rattle.grid_codes.specs.Kinds.{values_of_kind, end_of_kind, condition_of_kind, periodic_at_one_end}
use Rattle.grid_codes.specs.Modes.{mode_of_number}
use Rattle.grid_codes.specs.Editions.{unknown_edition, mode_width}
use Rattle.grid_codes.specs.Classes.{class}
use Rattle.sheet_read.specs.Fields.{
  points_at,
  values_at,
  axis_at,
  knots_begin,
  knots_at,
  axis_end,
  axis_begin,
  entries,
  knots_below,
  sheet_grid,
}
use Rattle.sheet_read.specs.Faults.{axis_fault, axes_fault, tail_refused, samples_fault, sheet_refusal}
use Rattle.sheet_read.proofs.Examples.{first_bytes}
use Rattle.sheet_build.specs.SheetTensor.{own_refusal}
use Rattle.report_front.specs.Front.{sheet_bytes, front_size}
use Rattle.report_totals.specs.Totals.{totals_of, most_sheets}
use Rattle.report.specs.Report.{sheet_at, front_sheet, stops, stream_of, report_of}

no_bytes : report_of [] ≡ record { totals = totals_of []; stopped = false }
unfolding stream_of report_of
no_bytes = refl

ends_inside : stream_of most_sheets (0x12 ∷ []) ≡ record { sheets = record { refusal = 11; tensor = [] } ∷ []; stopped = true }
unfolding any product_below bit field values_of_kind end_of_kind condition_of_kind periodic_at_one_end mode_of_number unknown_edition
    mode_width class points_at values_at axis_at knots_begin knots_at axis_end axis_begin entries knots_below sheet_grid axis_fault
    axes_fault tail_refused samples_fault sheet_refusal own_refusal sheet_bytes front_size sheet_at front_sheet stops stream_of
ends_inside = refl

last_bit_set : stream_of most_sheets (first_bytes ++ (0x01 ∷ 0xFF ∷ 0xFF ∷ []))
    ≡ record { sheets = record { refusal = 14; tensor = [] } ∷ []; stopped = true }
unfolding any product_below bit field values_of_kind end_of_kind condition_of_kind periodic_at_one_end mode_of_number unknown_edition
    mode_width class points_at values_at axis_at knots_begin knots_at axis_end axis_begin entries knots_below sheet_grid axis_fault
    axes_fault tail_refused samples_fault sheet_refusal own_refusal sheet_bytes front_size sheet_at front_sheet stops stream_of
last_bit_set = refl

-- its own bytes end where its fields do
cut_to_the_byte : front_size (first_bytes ++ (0x01 ∷ 0xFF ∷ 0xFF ∷ [])) ≡ 51
unfolding any product_below bit field values_of_kind end_of_kind condition_of_kind periodic_at_one_end mode_of_number unknown_edition
    mode_width points_at values_at axis_at knots_begin knots_at axis_end axis_begin entries knots_below sheet_grid axis_fault axes_fault
    tail_refused samples_fault sheet_refusal sheet_bytes front_size
cut_to_the_byte = refl
