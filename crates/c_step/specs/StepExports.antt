-- The chapter StepExports of docs/RULES.md: the exported calls of steps, whose own refusals stand in the order of OwnRefusals, with 22 for
-- a direction.
use Rattle.std.specs.Prelude.{◌≡◌, Bool, cond, ◌||◌, List, [], ◌∷◌, ◌++◌, ℕ, length, Float, Option, Some, None}
use Rattle.rules.specs.Numbers.{plus_zero}
use Rattle.rules.specs.Sizes.{most_axes, knots_length, samples_length}
use Rattle.rules.specs.Refusals.{points_refused, length_refused}
use Rattle.rules.specs.Calls.{or_else, answered, counted, labelled}
use Rattle.rules.specs.StepCalls.{found, located, exact_answer, axis_answer, step_answer, stepped_answer}
use Rattle.rules.specs.declared.AxisLocation.{AxisLocation}
use Rattle.rules.specs.declared.AxisLocation.TheVariants.{Exact, Between}
use Rattle.rules.specs.Answers.{SteppedAnswer}
use Rattle.grid_checks.specs.Tables.{Refusal, row, lowest}
use Rattle.c_axes.specs.Axes.{grid_without_ends}
use Rattle.c_refusals.specs.OwnRefusals.{sizes_given, axes_rows, query_slots_refused}
use Rattle.c_refusals.specs.Slots.{in_slot, QueryStored}
use Rattle.c_step.specs.Directions.{direction_of_number, direction_refused, some_direction_refused, directions_given}

-- two numbers in a slot of two, which is left as it was where it is another slice
abbrev pub in_pair : List ℕ → List ℕ → List ℕ
in_pair lent numbers = cond (length_refused (length lent) 2) lent numbers

-- ---- the exact index

-- an exact index as two numbers: 1 and the index, and 0 0 where none is found
abbrev pub exact_numbers : Option ℕ → List ℕ
exact_numbers (Some index) = 1 ∷ index ∷ []
exact_numbers None = 0 ∷ 0 ∷ []

-- 4 for the slot of these
abbrev pub exact_own_rows : ℕ → List ℕ → List Refusal
exact_own_rows n found_lent = row 2 (points_refused n) ∷ row 4 (length_refused (length found_lent) 2) ∷ []

unfoldable pub exact_own_refusal : ℕ → List ℕ → ℕ
exact_own_refusal n found_lent = lowest (exact_own_rows n found_lent) 0

module _ (n : ℕ) (knots : List Float) (lower : ℕ) (point : Float) (found_lent : List ℕ) where
  -- a short name for what the record is said by
  abbrev exact_own : ℕ
  exact_own = exact_own_refusal n found_lent

  -- what is promised: the refusal, and the exact index in its slot
  pub record ExactExport (refusal : ℕ) (found_later : List ℕ) : Type 0 where
    pub answer : refusal ≡ or_else exact_own (exact_answer n knots lower point).refusal
    pub slot : found_later ≡ in_pair found_lent (exact_numbers (found exact_own (exact_answer n knots lower point).index))

-- ---- the location on an axis

-- a location as two numbers and a fraction: 0 and the index on a knot, with +0.0; 1 and the lower index between two
abbrev pub location_numbers : AxisLocation → List ℕ
location_numbers (Exact index) = 0 ∷ index ∷ []
location_numbers (Between lower frac) = 1 ∷ lower ∷ []

abbrev pub location_fraction : AxisLocation → Float
location_fraction (Exact index) = plus_zero
location_fraction (Between lower frac) = frac

-- 4 for the slots of these
abbrev pub location_slots_refused : List ℕ → List Float → Bool
location_slots_refused location fraction = length_refused (length location) 2 || length_refused (length fraction) 1

-- a location in these slots, which are both left as they were where one is another slice
pub record LocationStored (location_lent : List ℕ) (fraction_lent : List Float) (location : AxisLocation) (location_later : List ℕ)
    (fraction_later : List Float) : Type 0 where
  pub numbers : location_later ≡ cond (location_slots_refused location_lent fraction_lent) location_lent (location_numbers location)
  pub fraction : fraction_later ≡ cond (location_slots_refused location_lent fraction_lent) fraction_lent (location_fraction location ∷ [])

abbrev pub axis_own_rows : ℕ → List ℕ → List Float → List Refusal
axis_own_rows n location fraction = row 2 (points_refused n) ∷ row 4 (location_slots_refused location fraction) ∷ []

unfoldable pub axis_own_refusal : ℕ → List ℕ → List Float → ℕ
axis_own_refusal n location fraction = lowest (axis_own_rows n location fraction) 0

module _ (n : ℕ) (knots : List Float) (point : Float) (location_lent : List ℕ) (fraction_lent : List Float) where
  -- a short name for what the record is said by
  abbrev axis_own : ℕ
  axis_own = axis_own_refusal n location_lent fraction_lent

  -- what is promised: the refusal, and the location in its slots
  pub record AxisExport (refusal : ℕ) (location_later : List ℕ) (fraction_later : List Float) : Type 0 where
    pub answer : refusal ≡ or_else axis_own (axis_answer n knots point).refusal
    pub answer_stored :
        LocationStored location_lent fraction_lent (located axis_own (axis_answer n knots point).location) location_later fraction_later

-- ---- the index of a step

-- 4 for its slot and for the call's own slice
abbrev pub step_own_rows : ℕ → List Float → ℕ → List ℕ → List Refusal
step_own_rows n knots number index_lent =
    row 2 (points_refused n)
    ∷ row 4 (length_refused (length index_lent) 1 || length_refused (length knots) n)
    ∷ row 22 (direction_refused number)
    ∷ []

unfoldable pub step_own_refusal : ℕ → List Float → ℕ → List ℕ → ℕ
step_own_refusal n knots number index_lent = lowest (step_own_rows n knots number index_lent) 0

module _ (n : ℕ) (knots : List Float) (number : ℕ) (point : Float) (index_lent : List ℕ) where
  -- a short name for what the record is said by
  abbrev step_own : ℕ
  step_own = step_own_refusal n knots number index_lent

  -- what is promised: the refusal, and the index in its slot
  pub record StepExport (refusal : ℕ) (index_later : List ℕ) : Type 0 where
    pub answer : refusal ≡ or_else step_own (step_answer (direction_of_number number) n knots point).refusal
    pub slot : index_later ≡ in_slot index_lent (counted step_own (step_answer (direction_of_number number) n knots point).index)

-- ---- the stepped surface

-- 4 for the directions and the slots of value and indices
abbrev pub stepped_slots_refused : List ℕ → List Float → List ℕ → Bool
stepped_slots_refused numbers value indices = length_refused (length numbers) most_axes || query_slots_refused value indices

module _ (axes : ℕ) (points numbers : List ℕ) (knots samples coordinates value_lent : List Float) (indices_lent : List ℕ) where
  -- 4 for these and for the call's own slices
  abbrev pub stepped_own_rows : List Refusal
  stepped_own_rows =
      axes_rows axes points ++ (
      row 4 (
      stepped_slots_refused numbers value_lent indices_lent
      || (
      length_refused (length knots) (knots_length (sizes_given axes points))
      || length_refused (length samples) (samples_length (sizes_given axes points))
      || length_refused (length coordinates) axes
      )
      )
      ∷ row 22 (some_direction_refused axes numbers)
      ∷ []
      )

  unfoldable pub stepped_own_refusal : ℕ
  stepped_own_refusal = lowest stepped_own_rows 0

  -- a short name for what the record is said by
  abbrev given_stepped_answer : SteppedAnswer
  given_stepped_answer =
      stepped_answer (grid_without_ends axes points knots) (directions_given axes numbers) samples coordinates

  -- what is promised: the refusal, the value in its slot, the indices
  pub record SteppedExport (refusal : ℕ) (value_later : List Float) (indices_later : List ℕ) : Type 0 where
    pub answer : refusal ≡ or_else stepped_own_refusal given_stepped_answer.refusal
    pub answer_stored :
        QueryStored value_lent indices_lent
        (answered stepped_own_refusal given_stepped_answer.value) (labelled stepped_own_refusal given_stepped_answer.indices)
        value_later indices_later
