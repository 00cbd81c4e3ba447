-- The chapter StepCalls of docs/RULES.md: for each public call of steps its refusal and its answer.
use Rattle.std.specs.Prelude.{◌≡◌, ◌||◌, List, ℕ, zero, suc, ◌-◌, ltb, get_or, length, Float, Option, None}
use Rattle.std.proofs.Math.Bool.{cond}
use Rattle.rules.specs.Numbers.{at, table}
use Rattle.rules.specs.Sizes.{most_axes, Grid, knots_length, samples_length}
use Rattle.rules.specs.Refusals.{
  axes_refused,
  points_refused,
  some_points_refused,
  tensor_refused,
  length_refused,
  lower_refused,
  number_refused,
  some_number_refused,
  knots_refused,
  some_knots_refused,
  location_refused,
}
use Rattle.rules.specs.Step.{exact_index, locate_axis, step_index, stepped_place, stepped, lower_step, upper_step}
use Rattle.rules.specs.Calls.{answered, counted, labelled}
use Rattle.rules.specs.declared.StepDirection.{StepDirection}
use Rattle.rules.specs.declared.StepDirection.TheVariants.{Lower}
use Rattle.rules.specs.declared.AxisLocation.{AxisLocation}
use Rattle.rules.specs.declared.AxisLocation.TheVariants.{Exact}
use Rattle.rules.specs.Answers.{ExactAnswer, AxisAnswer, StepAnswer, SteppedAnswer}

-- an exact index in an answer: none after a refusal
abbrev pub found : ℕ → Option ℕ → Option ℕ
found zero index = index
found (suc refusal) index = None

-- a location in an answer: on knot 0 after a refusal
abbrev pub located : ℕ → AxisLocation → AxisLocation
located zero location = location
located (suc refusal) location = Exact 0

-- ---- the exact index

module _ (n : ℕ) (knots : List Float) (lower : ℕ) (point : Float) where
  -- its refusal, the first of 2 4 6 7 8 that applies
  unfoldable pub exact_refusal : ℕ
  exact_refusal =
      cond (points_refused n) 2
      (cond (length_refused (length knots) n) 4
      (cond (lower_refused lower n) 6
      (cond (some_number_refused knots || number_refused point) 7
      (cond (knots_refused knots n) 8 0))))

  -- its answer: the refusal, and which of the two knots equals the point
  unfoldable pub exact_answer : ExactAnswer
  unfolding exact_refusal exact_index
  exact_answer = record { refusal = exact_refusal; index = found exact_refusal (exact_index knots lower point) }

  -- what it promises: the answer
  pub record ExactPromise (given : ExactAnswer) : Type 0 where
    pub answer : given ≡ exact_answer

-- ---- the location on an axis

module _ (n : ℕ) (knots : List Float) (point : Float) where
  -- its refusal, the first of 2 4 7 8 10 that applies
  unfoldable pub axis_refusal : ℕ
  unfolding locate_axis
  axis_refusal =
      cond (points_refused n) 2
      (cond (length_refused (length knots) n) 4
      (cond (some_number_refused knots || number_refused point) 7
      (cond (knots_refused knots n) 8
      (cond (location_refused (locate_axis knots (n - 1) point)) 10 0))))

  -- its answer: the refusal, and where the point lies
  unfoldable pub axis_answer : AxisAnswer
  unfolding axis_refusal
  axis_answer = record { refusal = axis_refusal; location = located axis_refusal (locate_axis knots (n - 1) point) }

  -- what it promises: the answer
  pub record AxisPromise (given : AxisAnswer) : Type 0 where
    pub answer : given ≡ axis_answer

-- ---- the index of a step

module _ (direction : StepDirection) (n : ℕ) (knots : List Float) (point : Float) where
  -- its refusal, the first of 2 4 7 8 that applies
  unfoldable pub step_refusal : ℕ
  step_refusal =
      cond (points_refused n) 2
      (cond (length_refused (length knots) n) 4
      (cond (some_number_refused knots || number_refused point) 7
      (cond (knots_refused knots n) 8 0)))

  -- its answer: the refusal, and the index
  unfoldable pub step_answer : StepAnswer
  unfolding step_refusal lower_step upper_step
  step_answer = record { refusal = step_refusal; index = counted step_refusal (step_index direction knots (n - 1) point) }

  -- what it promises: the answer
  pub record StepPromise (given : StepAnswer) : Type 0 where
    pub answer : given ≡ step_answer

-- ---- the stepped surface

-- the direction of axis i of the four
abbrev pub direction : List StepDirection → ℕ → StepDirection
direction directions i = get_or directions i Lower

module _ (g : Grid) (directions : List StepDirection) (samples coordinates : List Float) where
  -- its refusal, the first of 1 2 3 4 7 8 that applies
  unfoldable pub stepped_refusal : ℕ
  stepped_refusal =
      cond (axes_refused g) 1
      (cond (some_points_refused g) 2
      (cond (tensor_refused g) 3
      (cond
      (length_refused (length g.flat_knots) (knots_length g) || length_refused (length samples) (samples_length g)
      || length_refused (length coordinates) g.axes)
      4
      (cond (some_number_refused g.flat_knots || some_number_refused samples || some_number_refused coordinates) 7
      (cond (some_knots_refused g) 8 0)))))

  -- the indices of the four axes: those of the steps, and 0 for axes not in use
  unfoldable pub step_indices : List ℕ
  unfolding stepped_place
  step_indices = table most_axes (λ i. cond (ltb i g.axes) (stepped_place g (direction directions) (at coordinates) i) 0)

  -- its answer: the refusal, the sample at the place of the steps, and the indices
  unfoldable pub stepped_answer : SteppedAnswer
  unfolding stepped_refusal stepped step_indices
  stepped_answer = record {
    refusal = stepped_refusal;
    value = answered stepped_refusal (stepped g (direction directions) samples (at coordinates));
    indices = labelled stepped_refusal step_indices;
  }

  -- what it promises: the answer
  pub record SteppedPromise (given : SteppedAnswer) : Type 0 where
    pub answer : given ≡ stepped_answer
