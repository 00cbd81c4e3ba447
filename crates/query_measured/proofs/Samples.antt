-- After any list of changes the number at mask 0 of a place is the sample now standing there, so what is read there is that sample.
use mathlib.Core.Path.{◌≡◌, ap, ◌∙◌, subst}
use mathlib.Core.List.{List}
use Prim.Native.Nat.{ℕ, zero-le}
use native.Mathlib.Nat.{zero-lt-suc}
use lib.ListN.{length}
use lib.Ieee.{Float}
use Rattle.rules.specs.Numbers.{at}
use Rattle.rules.specs.Sizes.{Grid, points, Place, flat, spot}
use Rattle.rules.specs.Refusals.{outcome_refused}
use Rattle.rules.specs.Tensor.{sample, entry}
use Rattle.rules.specs.Calls.{BuildPromise, QueryPromise, QuickQueryPromise}
use Rattle.rules.proofs.ChangeIsBuild.{built_entry}
use Rattle.base_floats.specs.Place.{AllFit}
use Rattle.grid.specs.GridOfCall.{On}
use Rattle.tensor.specs.Changes.{OneChange, Kept, tensor_after, samples_after}
use Rattle.tensor.proofs.Demand3.{tensor_long, Stands, built_stands, changes_stand}
use Rattle.sheet_build.specs.SheetTensor.{SheetPromise, SheetAnswer}
use Rattle.sheet_build.proofs.Demand3.{grid_made, samples_made, tensor_made, sheet_is_built}
use Rattle.query_measured.specs.Measured.{Promise, Surface, Reads, MeasuredIsRead}
use Rattle.query_measured.specs.Samples.{ReadsSamples, ReadsItsSamples}
use Rattle.query_measured.proofs.Measured.{measured_is_read, quick_measured_is_read}

-- a tensor that stands as built from samples
module _ (g : Grid) (samples t : List Float) (stands : Stands g samples t) where
  -- is a surface
  surface : AllFit g.flat_knots → AllFit t → Surface g t
  surface knots_fit tensor_fit = record {
    axes_fine = stands.sound.axes_fine;
    points_fine = stands.sound.points_fine;
    tensor_fine = stands.sound.tensor_fine;
    knots_exact = stands.sound.knots_exact;
    tensor_exact = ap length stands.is ∙ tensor_long g samples stands.sound;
    knots_finite = stands.sound.knots_finite;
    knots_rise = stands.sound.knots_rise;
    tensor_finite = ap outcome_refused stands.is ∙ stands.sound.outcome_finite;
    knots_fit = knots_fit;
    tensor_fit = tensor_fit;
  }

  -- with the samples at mask 0
  sample_at : (place : Place) → On g place → at t (spot g place 0) ≡ at samples (flat (points g) g.axes place)
  unfolding entry sample
  sample_at place on =
      ap (λ (l : List Float). at l (spot g place 0)) stands.is ∙ built_entry g samples 0 0 place zero-le (zero-lt-suc 0) on

-- what holds of every surface with the tensor's number at a place holds, from an accepted build on, with the sample now standing there
pub sample_standing :
    (g : Grid) (samples out scratch t cleared : List Float) → BuildPromise g samples out scratch 0 t cleared
    → (changes : List OneChange) → Kept g t changes → AllFit g.flat_knots → AllFit (tensor_after t changes)
    → (place : Place) → On g place → (Holds : Float → Type 0)
    → (Surface g (tensor_after t changes) → Holds (at (tensor_after t changes) (spot g place 0)))
    → Holds (at (samples_after g samples changes) (flat (points g) g.axes place))
sample_standing g samples out scratch t cleared built changes kept knots_fit tensor_fit place on Holds holds =
    let stands = changes_stand g samples t (built_stands g samples out scratch t cleared built) changes kept in
    subst Holds
    (sample_at g (samples_after g samples changes) (tensor_after t changes) stands place on)
    (holds (surface g (samples_after g samples changes) (tensor_after t changes) stands knots_fit tensor_fit))

-- whatever query reads what was measured, reads the samples
reads_standing : (Promised : Promise) → MeasuredIsRead Promised → ReadsItsSamples Promised
reads_standing Promised is_read g samples out scratch t cleared built changes kept knots_fit tensor_fit coordinates place given at_place
    promise =
    sample_standing g samples out scratch t cleared built changes kept knots_fit tensor_fit place at_place.on_grid
    (λ (number : Float). Reads g place number given)
    (λ S. is_read g (tensor_after t changes) coordinates place given S at_place promise)

-- ---- the theorem

pub reads_its_samples : ReadsItsSamples QueryPromise
reads_its_samples = reads_standing QueryPromise measured_is_read

pub quick_reads_its_samples : ReadsItsSamples QuickQueryPromise
quick_reads_its_samples = reads_standing QuickQueryPromise quick_measured_is_read

-- ---- and of what a caller finds where `tensor_of_sheet` accepted a sheet

module _
    (bytes : List ℕ) (knots samples lent scratch : List Float) (made : SheetAnswer) (k s t w : List Float)
    (promise : SheetPromise bytes knots samples lent scratch made k s t w) (none : made.refusal ≡ 0)
  where
    pub sheet_reads_its_samples : ReadsSamples QueryPromise (grid_made made k) (samples_made made s) (tensor_made made t)
    sheet_reads_its_samples = reads_its_samples _ _ _ _ _ _ (sheet_is_built bytes knots samples lent scratch made k s t w promise none)

    pub sheet_quick_reads_its_samples : ReadsSamples QuickQueryPromise (grid_made made k) (samples_made made s) (tensor_made made t)
    sheet_quick_reads_its_samples =
        quick_reads_its_samples _ _ _ _ _ _ (sheet_is_built bytes knots samples lent scratch made k s t w promise none)
