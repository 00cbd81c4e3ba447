-- What each public call looks at before it works: the rows of rules' Calls without the last, which looks at an outcome. Of a slice that the
-- call will write, only the length is given.
use Rattle.std.specs.Prelude.{Bool, ◌||◌, List, [], ◌∷◌, ◌++◌, ℕ, ◌*◌, ◌^◌, ltb, length, take, drop, Float}
use Rattle.rules.specs.Numbers.{any}
use Rattle.rules.specs.Sizes.{
  most_axes,
  most_in_a_tensor,
  scratch_of_rows,
  Grid,
  sum_below,
  product_below,
  knots_length,
  samples_length,
  tensor_length,
  scratch_length,
  Place,
}
use Rattle.rules.specs.Refusals.{
  axes_refused,
  points_refused,
  some_points_refused,
  tensor_refused,
  length_refused,
  scratch_refused,
  place_refused,
  number_refused,
  some_number_refused,
  ends_refused,
  some_ends_refused,
  knots_refused,
  some_knots_refused,
  fewness_refused,
  some_fewness_refused,
}
use Rattle.rules.specs.declared.Axis.{Axis}
use Rattle.rules.specs.declared.Condition.{Condition}
use Rattle.grid.specs.GridOfCall.{sizes_of}
use Rattle.grid_checks.specs.Tables.{Refusal, row, lowest}

-- ---- the calls on one axis of n points

module _ (n : ℕ) (knots samples : List Float) where
  abbrev pub moments_rows : Condition → ℕ → ℕ → List Refusal
  moments_rows condition moments_given scratch_given =
      row 2 (points_refused n)
      ∷ row 4 (length_refused (length knots) n || length_refused (length samples) n || length_refused moments_given n)
      ∷ row 5 (scratch_refused scratch_given scratch_of_rows)
      ∷ row 7 (some_number_refused knots || ends_refused condition || some_number_refused samples)
      ∷ row 8 (knots_refused knots n)
      ∷ row 9 (fewness_refused condition n)
      ∷ []

  unfoldable pub moments_check : Condition → ℕ → ℕ → ℕ
  moments_check condition moments_given scratch_given = lowest (moments_rows condition moments_given scratch_given) 0

  abbrev pub curve_rows : ℕ → Float → List Refusal
  curve_rows moments_given point =
      row 2 (points_refused n)
      ∷ row 4 (length_refused (length knots) n || length_refused (length samples) n || length_refused moments_given n)
      ∷ row 7 (some_number_refused knots || some_number_refused samples || number_refused point)
      ∷ row 8 (knots_refused knots n)
      ∷ []

  unfoldable pub curve_check : ℕ → Float → ℕ
  curve_check moments_given point = lowest (curve_rows moments_given point) 0

  abbrev pub slopes_rows : ℕ → ℕ → List Refusal
  slopes_rows moments_given slopes_given =
      row 2 (points_refused n)
      ∷ row 4
      (length_refused (length knots) n || length_refused (length samples) n || length_refused moments_given n
      || length_refused slopes_given n)
      ∷ row 7 (some_number_refused knots || some_number_refused samples)
      ∷ row 8 (knots_refused knots n)
      ∷ []

  unfoldable pub slopes_check : ℕ → ℕ → ℕ
  slopes_check moments_given slopes_given = lowest (slopes_rows moments_given slopes_given) 0

-- ---- the calls on a grid

-- of axes with n i points on axis i: the rows that need no knots, below that of their number
abbrev pub points_rows : ℕ → (ℕ → ℕ) → List Refusal
points_rows axes n =
    row 2 (any (λ i. points_refused (n i)) axes) ∷ row 3 (ltb most_in_a_tensor (product_below n axes * 2 ^ axes)) ∷ []

unfoldable pub points_check : ℕ → (ℕ → ℕ) → ℕ
points_check axes n = lowest (points_rows axes n) 0

-- 4 of a query's lengths
abbrev pub lengths_of_points_refused : ℕ → (ℕ → ℕ) → ℕ → ℕ → ℕ → Bool
lengths_of_points_refused axes n knots tensor coordinates =
    length_refused knots (sum_below n axes) || length_refused tensor (product_below n axes * 2 ^ axes) || length_refused coordinates axes

-- 8 of the knots, axis after axis
abbrev pub knots_of_points_refused : ℕ → (ℕ → ℕ) → List Float → Bool
knots_of_points_refused axes n knots = any (λ i. knots_refused (take (n i) (drop (sum_below n i) knots)) (n i)) axes

-- what a query meets of its sizes and lengths
abbrev pub query_sizes_rows : ℕ → (ℕ → ℕ) → ℕ → ℕ → ℕ → List Refusal
query_sizes_rows axes n knots tensor coordinates =
    row 1 (ltb axes 1 || ltb most_axes axes)
    ∷ (points_rows axes n ++ (row 4 (lengths_of_points_refused axes n knots tensor coordinates) ∷ []))

unfoldable pub query_sizes_check : ℕ → (ℕ → ℕ) → ℕ → ℕ → ℕ → ℕ
query_sizes_check axes n knots tensor coordinates = lowest (query_sizes_rows axes n knots tensor coordinates) 0

-- what it meets below these: of its knots and coordinates
abbrev pub knots_and_coordinates_rows : ℕ → (ℕ → ℕ) → List Float → List Float → List Refusal
knots_and_coordinates_rows axes n knots coordinates =
    row 7 (some_number_refused knots || some_number_refused coordinates) ∷ row 8 (knots_of_points_refused axes n knots) ∷ []

unfoldable pub knots_and_coordinates_check : ℕ → (ℕ → ℕ) → List Float → List Float → ℕ
knots_and_coordinates_check axes n knots coordinates = lowest (knots_and_coordinates_rows axes n knots coordinates) 0

-- the rows of every one of them, which need no knots
abbrev pub sizes_rows : Grid → List Refusal
sizes_rows g = row 1 (axes_refused g) ∷ row 2 (some_points_refused g) ∷ row 3 (tensor_refused g) ∷ []

unfoldable pub sizes_check : ℕ → List Axis → ℕ
sizes_check axes entries = lowest (sizes_rows (sizes_of axes entries)) 0

module _ (g : Grid) where
  abbrev pub build_rows : List Float → ℕ → ℕ → List Refusal
  build_rows samples tensor_given scratch_given =
      sizes_rows g ++ (
      row 4
      (length_refused (length g.flat_knots) (knots_length g) || length_refused (length samples) (samples_length g)
      || length_refused tensor_given (tensor_length g))
      ∷ row 5 (scratch_refused scratch_given (scratch_length g))
      ∷ row 7 (some_number_refused g.flat_knots || some_ends_refused g || some_number_refused samples)
      ∷ row 8 (some_knots_refused g)
      ∷ row 9 (some_fewness_refused g)
      ∷ []
      )

  unfoldable pub build_check : List Float → ℕ → ℕ → ℕ
  build_check samples tensor_given scratch_given = lowest (build_rows samples tensor_given scratch_given) 0

  abbrev pub change_rows : List Float → ℕ → Place → Float → List Refusal
  change_rows tensor scratch_given changed v =
      sizes_rows g ++ (
      row 4 (length_refused (length g.flat_knots) (knots_length g) || length_refused (length tensor) (tensor_length g))
      ∷ row 5 (scratch_refused scratch_given (scratch_length g))
      ∷ row 6 (place_refused g changed)
      ∷ row 7 (some_number_refused g.flat_knots || some_ends_refused g || number_refused v || some_number_refused tensor)
      ∷ row 8 (some_knots_refused g)
      ∷ row 9 (some_fewness_refused g)
      ∷ []
      )

  unfoldable pub change_check : List Float → ℕ → Place → Float → ℕ
  change_check tensor scratch_given changed v = lowest (change_rows tensor scratch_given changed v) 0
