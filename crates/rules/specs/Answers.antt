-- The chapter Answers of docs/RULES.md: what calls answer, told in numbers as C is told it: the number of the refusal, 0 for none, and
-- beside it what is answered, +0.0 and 0 after a refusal.
use Rattle.std.specs.Prelude.{ℕ, List, Float, Option, None, Result, Ok, Err}
use Rattle.rules.specs.Numbers.{plus_zero, table}
use Rattle.rules.specs.Sizes.{most_axes}
use Rattle.rules.specs.declared.Refusal.{Refusal}
use Rattle.rules.specs.declared.Refusal.TheVariants.{
  Axes,
  Points,
  Tensor,
  Length,
  Scratch,
  Place,
  Number,
  Knots,
  Fewness,
  Outcome,
  Short,
  Edition,
  Kinds,
  Tail,
  Buffer,
  Stack,
  Unused,
  Outside,
  Range,
  Position,
  Uneven,
  Mode,
  Lost,
}
use Rattle.rules.specs.declared.EvenRefusal.{EvenRefusal}
use Rattle.rules.specs.declared.EvenRefusal.TheVariants.{Refused, Uneven as UnevenAxis}
use Rattle.rules.specs.declared.ValueInCell.{ValueInCell}
use Rattle.rules.specs.declared.SteppedSample.{SteppedSample}
use Rattle.rules.specs.declared.AxisLocation.{AxisLocation}
use Rattle.rules.specs.declared.AxisLocation.TheVariants.{Exact}

-- the number of a refusal
abbrev pub number_of : Refusal → ℕ
number_of Axes = 1
number_of Points = 2
number_of Tensor = 3
number_of Length = 4
number_of Scratch = 5
number_of Place = 6
number_of Number = 7
number_of Knots = 8
number_of Fewness = 9
number_of Outcome = 10
number_of Short = 11
number_of Edition = 12
number_of Kinds = 13
number_of Tail = 14
number_of Buffer = 15
number_of Stack = 16
number_of Unused = 17
number_of Outside = 18
number_of Range = 19
number_of Position = 20
number_of Uneven = 21
number_of Mode = 22
number_of Lost = 23

-- the number of what a call gives, 0 where it does not refuse
abbrev pub refusal_of : {T : Type 0} → Result T Refusal → ℕ
refusal_of (Ok given) = 0
refusal_of (Err refusal) = number_of refusal

-- ---- the curve's value

pub record CurveAnswer : Type 0 where
  pub refusal : ℕ
  pub value : Float

abbrev pub curve_told : Result Float Refusal → CurveAnswer
curve_told (Ok value) = record { refusal = 0; value = value }
curve_told (Err refusal) = record { refusal = number_of refusal; value = plus_zero }

-- ---- the change: how many lanes were solved

pub record ChangeAnswer : Type 0 where
  pub refusal : ℕ
  pub lanes : ℕ

abbrev pub change_told : Result ℕ Refusal → ChangeAnswer
change_told (Ok lanes) = record { refusal = 0; lanes = lanes }
change_told (Err refusal) = record { refusal = number_of refusal; lanes = 0 }

-- ---- the queries: the surface's value, and the label of each axis

pub record QueryAnswer : Type 0 where
  pub refusal : ℕ
  pub value : Float
  pub labels : List ℕ

abbrev pub query_told : Result ValueInCell Refusal → QueryAnswer
query_told (Ok found) = record { refusal = 0; value = found.value; labels = found.labels }
query_told (Err refusal) = record { refusal = number_of refusal; value = plus_zero; labels = table most_axes (λ i. 0) }

-- ---- the query of even axes: after 21 the lowest axis that is not even and its first interval that fails, both 0 else

pub record EvenAnswer : Type 0 where
  pub refusal : ℕ
  pub value : Float
  pub labels : List ℕ
  pub axis : ℕ
  pub interval : ℕ

abbrev pub even_told : Result ValueInCell EvenRefusal → EvenAnswer
even_told (Ok found) = record { refusal = 0; value = found.value; labels = found.labels; axis = 0; interval = 0 }
even_told (Err (Refused refusal)) = record {
  refusal = number_of refusal;
  value = plus_zero;
  labels = table most_axes (λ i. 0);
  axis = 0;
  interval = 0;
}
even_told (Err (UnevenAxis axis interval)) = record {
  refusal = 21;
  value = plus_zero;
  labels = table most_axes (λ i. 0);
  axis = axis;
  interval = interval;
}

-- ---- steps

-- the index of the knot that equals a point, if one does
pub record ExactAnswer : Type 0 where
  pub refusal : ℕ
  pub index : Option ℕ

abbrev pub exact_told : Result (Option ℕ) Refusal → ExactAnswer
exact_told (Ok index) = record { refusal = 0; index = index }
exact_told (Err refusal) = record { refusal = number_of refusal; index = None }

-- where a point lies
pub record AxisAnswer : Type 0 where
  pub refusal : ℕ
  pub location : AxisLocation

abbrev pub axis_told : Result AxisLocation Refusal → AxisAnswer
axis_told (Ok location) = record { refusal = 0; location = location }
axis_told (Err refusal) = record { refusal = number_of refusal; location = Exact 0 }

-- the index of the step
pub record StepAnswer : Type 0 where
  pub refusal : ℕ
  pub index : ℕ

abbrev pub step_told : Result ℕ Refusal → StepAnswer
step_told (Ok index) = record { refusal = 0; index = index }
step_told (Err refusal) = record { refusal = number_of refusal; index = 0 }

-- the sample at the indices of the steps, and these, of each axis
pub record SteppedAnswer : Type 0 where
  pub refusal : ℕ
  pub value : Float
  pub indices : List ℕ

abbrev pub stepped_told : Result SteppedSample Refusal → SteppedAnswer
stepped_told (Ok sample) = record { refusal = 0; value = sample.value; indices = sample.indices }
stepped_told (Err refusal) = record { refusal = number_of refusal; value = plus_zero; indices = table most_axes (λ i. 0) }
