-- What the host finds of the sizes of the axes given, and what a query meets after them.
use Rattle.std.specs.Prelude.{◌≡◌, ◌||◌, List, [], ◌∷◌, ℕ, length, Float, Result}
use Rattle.std.specs.Result.{IfOk}
use Rattle.rules.specs.Sizes.{knots_length, tensor_length}
use Rattle.rules.specs.Answers.{refusal_of}
use Rattle.rules.specs.Refusals.{length_refused}
use Rattle.rules.specs.declared.Refusal as rules
use Rattle.grid_checks.specs.Tables.{Refusal, row}
use Rattle.grid_checks.specs.declared.sizes.Sizes.{Sizes}
use Rattle.c_axes.specs.Axes.{some_modes_refused}
use Rattle.c_refusals.specs.OwnRefusals.{sizes_given, axes_own_refusal, modes_or_slots_refused}

-- how many knots the axes have together, and how many numbers their tensor
pub record SizesGiven (axes : ℕ) (points : List ℕ) (sizes : Sizes) : Type 0 where
  pub knots : sizes.knots ≡ knots_length (sizes_given axes points)
  pub numbers : sizes.numbers ≡ tensor_length (sizes_given axes points)

-- the number that every call with axes meets first, or else these
pub record OwnSizes (axes : ℕ) (points : List ℕ) (r : Result Sizes rules.Refusal) : Type 0 where
  pub refusal : refusal_of r ≡ axes_own_refusal axes points
  pub sizes : IfOk r (SizesGiven axes points)

-- the rows that a query meets after its axes, with the lengths of its slices by these sizes
abbrev pub rows_of_sizes : ℕ → Sizes → List ℕ → List Float → List Float → List Float → List Float → List ℕ → List Refusal
rows_of_sizes axes sizes modes knots tensor coordinates value labels =
    row 4 (
    modes_or_slots_refused modes value labels
    || (length_refused (length knots) sizes.knots || length_refused (length tensor) sizes.numbers
    || length_refused (length coordinates) axes)
    )
    ∷ row 22 (some_modes_refused axes modes)
    ∷ []
