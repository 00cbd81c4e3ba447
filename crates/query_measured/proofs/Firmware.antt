-- What was measured is read by the firmware's call, from its promise: its tensor is that of an accepted build, and the query asks it.
use mathlib.Core.Path.{◌≡◌, refl, sym}
use mathlib.Core.List.{List, []}
use Prim.Native.Nat.{ℕ}
use lib.Ieee.{Float, nan, binary64, of_bits}
use lib.Ieee.Bits.{of_bits-fits, of_bits-to_bits}
use Rattle.rules.specs.Numbers.{at, zeros}
use Rattle.rules.specs.Sizes.{Grid, points, tensor_length, scratch_length, Place, flat}
use Rattle.rules.specs.Calls.{scratch_after, build_refusal, BuildPromise, query_answer}
use Rattle.rules.proofs.Refused.{or_else_passed}
use Rattle.rules.proofs.Tables.{length_table, at_table}
use Rattle.query_quick.proofs.QuickIsFull.{table_fits}
use Rattle.sheet_patterns.specs.Patterns.{pattern, coordinates}
use Rattle.sheet_read.specs.Fields.{sheet_grid, sheet_samples}
use Rattle.sheet_read.specs.Faults.{sheet_refusal}
use Rattle.sheet_build.specs.SheetTensor.{building_refusal, own_refusal}
use Rattle.sheet_surface.specs.SheetSurface.{built, asked, surface_refusal, surface}
use Rattle.sheet_surface.proofs.RefusalsAreNoAnswers.{held}
use Rattle.query_measured.specs.Measured.{AtPlace, Reads}
use Rattle.query_measured.specs.Firmware.{PatternsAtPlace, FirmwareReads}
use Rattle.query_measured.proofs.Measured.{measured_is_read}
use Rattle.query_measured.proofs.Samples.{sample_standing}
use Rattle.tensor_verify.proofs.Fits.{tensor_fits}
use Rattle.query_measured.proofs.SheetFits.{sheet_knots_fit, sheet_samples_fit}

module _ (bytes patterns : List ℕ) (place : Place) (A : PatternsAtPlace bytes patterns place) where
  abbrev g : Grid
  g = sheet_grid bytes

  abbrev samples : List Float
  samples = sheet_samples bytes

  both : (sheet_refusal bytes ≡ 0) × (building_refusal bytes ≡ 0)
  unfolding own_refusal
  both = or_else_passed (sheet_refusal bytes) (building_refusal bytes) A.accepted

  -- ---- the sheet's tensor is that of an accepted build

  abbrev lent : List Float
  lent = zeros (tensor_length g)

  abbrev scratch : List Float
  scratch = zeros (scratch_length g)

  no_refusal : build_refusal g samples lent scratch ≡ 0
  unfolding building_refusal
  no_refusal = both.1

  is_built : BuildPromise g samples lent scratch 0 (built bytes) (scratch_after 0 scratch)
  is_built = record { answer = sym no_refusal; output = rw no_refusal; scratch = rw no_refusal }

  -- ---- asked at the place

  abbrev point : List Float
  point = coordinates g.axes patterns

  at_place : AtPlace g place point
  at_place = record {
    exact = length_table g.axes (λ i. of_bits binary64 (pattern patterns i));
    on_grid = A.on_grid;
    equal = λ i l. rw (at_table g.axes (λ j. of_bits binary64 (pattern patterns j)) i nan l) (A.equal i l);
    fit = table_fits g.axes (λ i. of_bits binary64 (pattern patterns i)) (λ i. of_bits-fits binary64 (pattern patterns i));
  }

  reads : Reads g place (at samples (flat (points g) g.axes place)) (asked bytes patterns)
  unfolding asked
  reads =
      sample_standing g samples lent scratch (built bytes) (scratch_after 0 scratch) is_built [] tt
      (sheet_knots_fit bytes) (tensor_fits g samples (sheet_samples_fit bytes)) place A.on_grid
      (λ (number : Float). Reads g place number (query_answer g (built bytes) point))
      (λ S. measured_is_read g (built bytes) point place (query_answer g (built bytes) point) S at_place (record { answer = refl }))

  -- ---- the answer

  not_refused : surface_refusal bytes patterns ≡ 0
  unfolding surface_refusal
  not_refused = rw (both.0, A.small, A.zeros, both.1, reads.accepted) refl

  number_is : of_bits binary64 (surface bytes patterns) ≡ (asked bytes patterns).value
  unfolding surface
  number_is = rw not_refused (of_bits-to_bits binary64 (asked bytes patterns).value (held bytes patterns not_refused))

pub firmware_reads : FirmwareReads
firmware_reads bytes patterns place given A promise =
    (not_refused bytes patterns place A, rw (promise.answer, number_is bytes patterns place A) (reads bytes patterns place A).value)
