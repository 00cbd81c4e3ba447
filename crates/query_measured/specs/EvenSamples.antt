-- The query of even axes reads the samples too: from an accepted build on, after any list of changes.
use Rattle.std.specs.Prelude.{List, Float}
use Rattle.rules.specs.Numbers.{at}
use Rattle.rules.specs.Sizes.{Grid, points, Place, flat}
use Rattle.rules.specs.Calls.{BuildPromise}
use Rattle.rules.specs.EvenCalls.{EvenQueryPromise}
use Rattle.rules.specs.Answers.{EvenAnswer}
use Rattle.base_floats.specs.Place.{AllFit}
use Rattle.tensor.specs.Changes.{OneChange, Kept, tensor_after, samples_after}
use Rattle.query_measured.specs.Measured.{AtPlace}
use Rattle.query_measured.specs.EvenMeasured.{EvenGrid, EvenReads}

-- of a tensor t that was made of samples, and any list of changes, refused ones among them
abbrev pub EvenReadsSamples : Grid → List Float → List Float → Type 0
EvenReadsSamples g samples t =
    (changes : List OneChange) → Kept g t changes
    → AllFit g.flat_knots → AllFit (tensor_after t changes) → EvenGrid g
    → (coordinates : List Float) (place : Place) (given : EvenAnswer) → AtPlace g place coordinates
    → EvenQueryPromise g (tensor_after t changes) coordinates given
    → EvenReads g place (at (samples_after g samples changes) (flat (points g) g.axes place)) given

-- so of one that an accepted build made
abbrev pub EvenReadsItsSamples : Type 0
EvenReadsItsSamples =
    (g : Grid) (samples out scratch t cleared : List Float) → BuildPromise g samples out scratch 0 t cleared → EvenReadsSamples g samples t
