-- What is looked at before the knots, what is left of axes and knots then, and what is promised of any axes with these points.
use Rattle.std.specs.Prelude.{List, [], ◌∷◌, ◌++◌, ◌≡◌, ℕ, ◌*◌, ◌^◌, ◌≤◌, ltb, ◌||◌, length, Float}
use Rattle.rules.specs.Sizes.{most_axes, most_in_a_tensor, sum_below, product_below, place_of}
use Rattle.rules.specs.Refusals.{length_refused}
use Rattle.rules.specs.declared.Axis.{Axis}
use Rattle.grid.specs.GridOfCall.{grid, InRange}
use Rattle.grid_checks.specs.Tables.{Refusal, row, lowest}
use Rattle.grid_checks.specs.Check.{points_rows}
use Rattle.query_answer.specs.PointsAndModes.{PointsOf}
use Rattle.query_profile.specs.ProfileCalls.{EvenProfile, EvenProfilePromise}

-- 1 to 4 of axes with n i points on axis i and so many knots
abbrev pub profile_sizes_rows : ℕ → (ℕ → ℕ) → ℕ → List Refusal
profile_sizes_rows axes n knots =
    row 1 (ltb axes 1 || ltb most_axes axes) ∷ (points_rows axes n ++ (row 4 (length_refused knots (sum_below n axes)) ∷ []))

unfoldable pub profile_sizes_check : ℕ → (ℕ → ℕ) → ℕ → ℕ
profile_sizes_check axes n knots = lowest (profile_sizes_rows axes n knots) 0

-- what they leave
pub record ProfileFits (axes : ℕ) (points : List ℕ) (x : List Float) : Type 0 where
  pub four_points : length points ≡ most_axes
  pub in_range : InRange axes (place_of points)
  pub small : product_below (place_of points) axes * 2 ^ axes ≤ most_in_a_tensor
  pub knots_exact : length x ≡ sum_below (place_of points) axes

-- what is promised of the grid of any axes that have these points
abbrev pub ProfileAmong : ℕ → List ℕ → List Float → EvenProfile → Type 0
ProfileAmong axes points x r = (all : List Axis) → PointsOf axes points all → EvenProfilePromise (grid axes all x) r
