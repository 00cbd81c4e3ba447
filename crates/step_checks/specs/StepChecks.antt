-- What each public call of steps looks at before it works: the rows of rules' StepCalls, but for that of an outcome.
use Rattle.std.specs.Prelude.{Bool, ◌||◌, List, [], ◌∷◌, ◌++◌, ℕ, ltb, length, Float}
use Rattle.rules.specs.Sizes.{most_axes, Grid, points, sum_below, product_below}
use Rattle.rules.specs.Refusals.{
  points_refused,
  length_refused,
  lower_refused,
  number_refused,
  some_number_refused,
  knots_refused,
  some_knots_refused,
}
use Rattle.grid_checks.specs.Tables.{Refusal, row, lowest}
use Rattle.grid_checks.specs.Check.{points_rows}

-- ---- the calls on one axis of n points

-- what each of them meets first, of the points and of how many knots there are
abbrev pub axis_rows : ℕ → ℕ → List Refusal
axis_rows n knots_given = row 2 (points_refused n) ∷ row 4 (length_refused knots_given n) ∷ []

unfoldable pub axis_check : ℕ → ℕ → ℕ
axis_check n knots_given = lowest (axis_rows n knots_given) 0

module _ (n : ℕ) (knots : List Float) where
  -- what each of them meets last, of the knots and the point
  abbrev pub numbers_rows : Float → List Refusal
  numbers_rows point =
      row 7 (some_number_refused knots || number_refused point)
      ∷ row 8 (knots_refused knots n)
      ∷ []

  unfoldable pub numbers_check : Float → ℕ
  numbers_check point = lowest (numbers_rows point) 0

  -- of the location and of the index of a step
  abbrev pub point_rows : Float → List Refusal
  point_rows point = axis_rows n (length knots) ++ numbers_rows point

  unfoldable pub point_check : Float → ℕ
  point_check point = lowest (point_rows point) 0

  -- of the exact index
  abbrev pub exact_rows : ℕ → Float → List Refusal
  exact_rows lower point = axis_rows n (length knots) ++ (row 6 (lower_refused lower n) ∷ numbers_rows point)

  unfoldable pub exact_check : ℕ → Float → ℕ
  exact_check lower point = lowest (exact_rows lower point) 0

-- ---- the stepped surface

-- of axes with n i points on axis i: 4 of its lengths
abbrev pub stepped_lengths_refused : ℕ → (ℕ → ℕ) → ℕ → ℕ → ℕ → Bool
stepped_lengths_refused axes n knots samples coordinates =
    length_refused knots (sum_below n axes) || length_refused samples (product_below n axes) || length_refused coordinates axes

-- what it meets of its sizes and lengths
abbrev pub stepped_sizes_rows : ℕ → (ℕ → ℕ) → ℕ → ℕ → ℕ → List Refusal
stepped_sizes_rows axes n knots samples coordinates =
    row 1 (ltb axes 1 || ltb most_axes axes)
    ∷ (points_rows axes n ++ (row 4 (stepped_lengths_refused axes n knots samples coordinates) ∷ []))

unfoldable pub stepped_sizes_check : ℕ → (ℕ → ℕ) → ℕ → ℕ → ℕ → ℕ
stepped_sizes_check axes n knots samples coordinates = lowest (stepped_sizes_rows axes n knots samples coordinates) 0

-- and with what it meets of the numbers
module _ (g : Grid) (samples coordinates : List Float) where
  abbrev pub stepped_rows : List Refusal
  stepped_rows =
      stepped_sizes_rows g.axes (points g) (length g.flat_knots) (length samples) (length coordinates) ++ (
      row 7 (some_number_refused g.flat_knots || some_number_refused samples || some_number_refused coordinates)
      ∷ row 8 (some_knots_refused g)
      ∷ []
      )

  unfoldable pub stepped_check : ℕ
  stepped_check = lowest stepped_rows 0
