-- After any list of changes the query of even axes reads at a place the sample now standing there.
use mathlib.Core.Path.{◌≡◌}
use mathlib.Core.List.{List}
use Prim.Native.Nat.{ℕ}
use lib.Ieee.{Float}
use Rattle.tensor.specs.Changes.{tensor_after}
use Rattle.sheet_build.specs.SheetTensor.{SheetPromise, SheetAnswer}
use Rattle.sheet_build.proofs.Demand3.{grid_made, samples_made, tensor_made, sheet_is_built}
use Rattle.query_measured.specs.EvenMeasured.{EvenReads}
use Rattle.query_measured.specs.EvenSamples.{EvenReadsSamples, EvenReadsItsSamples}
use Rattle.query_measured.proofs.Samples.{sample_standing}
use Rattle.query_measured.proofs.EvenMeasured.{even_measured_is_read}

pub even_reads_its_samples : EvenReadsItsSamples
even_reads_its_samples g samples out scratch t cleared built changes kept knots_fit tensor_fit even coordinates place given on_it promise =
    sample_standing g samples out scratch t cleared built changes kept knots_fit tensor_fit place on_it.on_grid
    (λ (number : Float). EvenReads g place number given)
    (λ S. even_measured_is_read g (tensor_after t changes) coordinates place given S even on_it promise)

-- ---- and of what a caller finds where `tensor_of_sheet` accepted a sheet

module _
    (bytes : List ℕ) (knots samples lent scratch : List Float) (made : SheetAnswer) (k s t w : List Float)
    (promise : SheetPromise bytes knots samples lent scratch made k s t w) (none : made.refusal ≡ 0)
  where
    pub sheet_even_reads_its_samples : EvenReadsSamples (grid_made made k) (samples_made made s) (tensor_made made t)
    sheet_even_reads_its_samples =
        even_reads_its_samples _ _ _ _ _ _ (sheet_is_built bytes knots samples lent scratch made k s t w promise none)
