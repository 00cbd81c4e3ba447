-- What was measured is read, from an accepted build on: after any list of changes a query at the knots of a place reads the sample now
-- standing there.
use Rattle.std.specs.Prelude.{List, Float}
use Rattle.rules.specs.Numbers.{at}
use Rattle.rules.specs.Sizes.{Grid, points, Place, flat}
use Rattle.rules.specs.Calls.{BuildPromise}
use Rattle.rules.specs.Answers.{QueryAnswer}
use Rattle.base_floats.specs.Place.{AllFit}
use Rattle.tensor.specs.Changes.{OneChange, Kept, tensor_after, samples_after}
use Rattle.query_measured.specs.Measured.{Promise, AtPlace, Reads}

-- of a tensor t that was made of samples, and any list of changes, refused ones among them; the knots and the tensor that the query is lent
-- are f64s, as in every slice
abbrev pub ReadsSamples : Promise → Grid → List Float → List Float → Type 0
ReadsSamples Promised g samples t =
    (changes : List OneChange) → Kept g t changes
    → AllFit g.flat_knots → AllFit (tensor_after t changes)
    → (coordinates : List Float) (place : Place) (given : QueryAnswer) → AtPlace g place coordinates
    → Promised g (tensor_after t changes) coordinates given
    → Reads g place (at (samples_after g samples changes) (flat (points g) g.axes place)) given

-- so of one that an accepted build made
abbrev pub ReadsItsSamples : Promise → Type 0
ReadsItsSamples Promised =
    (g : Grid) (samples out scratch t cleared : List Float) → BuildPromise g samples out scratch 0 t cleared
    → ReadsSamples Promised g samples t
