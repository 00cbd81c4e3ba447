-- The chapter Refusals of docs/RULES.md: for each number the test by which it is given. Which call has which, and in what order, stands in
-- Calls.
use Rattle.std.specs.Prelude.{Bool, false, not, ◌||◌, List, ℕ, ◌+◌, ◌-◌, ltb, leb, eqb, length, Float}
use Rattle.std.specs.Float.Ieee.{lt}
use Rattle.std.specs.Float.Ieee.Scale.{finite}
use Rattle.rules.specs.Numbers.{at, any}
use Rattle.rules.specs.Ends.{fewest_points}
use Rattle.rules.specs.Sizes.{
  most_axes,
  fewest_on_an_axis,
  most_on_an_axis,
  most_in_a_tensor,
  Grid,
  points,
  condition,
  knots,
  tensor_length,
  Place,
}
use Rattle.rules.specs.Steps.{h}
use Rattle.rules.specs.declared.End.{End}
use Rattle.rules.specs.declared.End.TheVariants.{NotAKnot, FirstDerivative, SecondDerivative}
use Rattle.rules.specs.declared.Condition.{Condition}
use Rattle.rules.specs.declared.Condition.TheVariants.{Endpoints, Periodic}
use Rattle.rules.specs.declared.AxisLocation.{AxisLocation}
use Rattle.rules.specs.declared.AxisLocation.TheVariants.{Exact, Between}

-- 1: no axis, or more than four
abbrev pub axes_refused : Grid → Bool
axes_refused g = ltb g.axes 1 || ltb most_axes g.axes

-- 2: the points of an axis lie outside their range
abbrev pub points_refused : ℕ → Bool
points_refused n = ltb n fewest_on_an_axis || ltb most_on_an_axis n

-- 2 of a grid: so for an axis in use
abbrev pub some_points_refused : Grid → Bool
some_points_refused g = any (λ i. points_refused (points g i)) g.axes

-- 3: the tensor would be longer than a tensor may be
abbrev pub tensor_refused : Grid → Bool
tensor_refused g = ltb most_in_a_tensor (tensor_length g)

-- 4: a slice has another length than it must
abbrev pub length_refused : ℕ → ℕ → Bool
length_refused given exact = not (eqb given exact)

-- 5: scratch is shorter than it must be at least
abbrev pub scratch_refused : ℕ → ℕ → Bool
scratch_refused given least = ltb given least

-- 6: on an axis in use the index of the place is not below the points
abbrev pub place_refused : Grid → Place → Bool
place_refused g p = any (λ i. leb (points g i) (p i)) g.axes

-- 6 of a lower index among n points: it has no knot after it
abbrev pub lower_refused : ℕ → ℕ → Bool
lower_refused lower n = ltb (n - 2) lower

-- 7: a number is infinite or NaN
abbrev pub number_refused : Float → Bool
number_refused v = not (finite v)

-- 7 of a list: so for one of its numbers
abbrev pub some_number_refused : List Float → Bool
some_number_refused xs = any (λ k. number_refused (at xs k)) (length xs)

-- 7 of an end: so for the number that it carries, if it carries one
abbrev pub end_refused : End → Bool
end_refused NotAKnot = false
end_refused (FirstDerivative v) = number_refused v
end_refused (SecondDerivative v) = number_refused v

-- 7 of a condition: so for one of its ends
abbrev pub ends_refused : Condition → Bool
ends_refused (Endpoints lower upper) = end_refused lower || end_refused upper
ends_refused Periodic = false

-- 7 of the ends of a grid: so for an axis in use
abbrev pub some_ends_refused : Grid → Bool
some_ends_refused g = any (λ i. ends_refused (condition g i)) g.axes

-- 8: knot k is not below the next, or the step between them is infinite or NaN
unfoldable pub step_refused : List Float → ℕ → Bool
unfolding h
step_refused x k = not (lt (at x k) (at x (k + 1))) || not (finite (h x k))

-- 8 of an axis of n points: so for one of its steps
abbrev pub knots_refused : List Float → ℕ → Bool
knots_refused x n = any (step_refused x) (n - 1)

-- 8 of a grid: so for an axis in use
abbrev pub some_knots_refused : Grid → Bool
some_knots_refused g = any (λ i. knots_refused (knots g i) (points g i)) g.axes

-- 8 of cell l alone: one of its two knots is infinite or NaN, or its step is refused
unfoldable pub found_cell_refused : List Float → ℕ → Bool
unfolding step_refused
found_cell_refused x l = number_refused (at x l) || number_refused (at x (l + 1)) || step_refused x l

-- 8 of the cells found: so for an axis in use
abbrev pub some_found_cell_refused : Grid → Place → Bool
some_found_cell_refused g cells = any (λ i. found_cell_refused (knots g i) (cells i)) g.axes

-- 9: an axis has fewer points than its condition needs
abbrev pub fewness_refused : Condition → ℕ → Bool
fewness_refused c n = ltb n (fewest_points c)

-- 9 of a grid: so for an axis in use
abbrev pub some_fewness_refused : Grid → Bool
some_fewness_refused g = any (λ i. fewness_refused (condition g i) (points g i)) g.axes

-- 10: one of the numbers to be stored is infinite or NaN
abbrev pub outcome_refused : List Float → Bool
outcome_refused outcome = some_number_refused outcome

-- 10 of an answer: it is infinite or NaN
abbrev pub answer_refused : Float → Bool
answer_refused answer = number_refused answer

-- 10 of a location: so for its fraction, if it has one
abbrev pub location_refused : AxisLocation → Bool
location_refused (Exact index) = false
location_refused (Between lower frac) = answer_refused frac
