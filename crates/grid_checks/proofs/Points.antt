-- The points taken out of four axes: what is asked of them is asked of the axes.
use mathlib.Core.Path.{◌≡◌, sym, ap, subst, ◌∙◌}
use mathlib.Core.Bool.{Bool}
use mathlib.Core.List.{List}
use Prim.Native.Nat.{ℕ}
use lib.ListN.{drop}
use lib.Ieee.{Float}
use Rattle.rules.specs.Sizes.{place_of}
use Rattle.rules.specs.Refusals.{some_knots_refused}
use Rattle.rules.specs.declared.Axis.{Axis}
use Rattle.grid.specs.GridOfCall.{grid, sizes_of, points_of, InRange}
use Rattle.grid_checks.specs.Check.{points_rows, points_check, sizes_rows, knots_of_points_refused}
use Rattle.grid_checks.specs.Tables.{lowest}

module _ (axes : ℕ) (all : List Axis) (points : List ℕ) (same : place_of points ≡ points_of all) where
  pub range_of_points : InRange axes (points_of all) → InRange axes (place_of points)
  range_of_points = subst (InRange axes) (sym same)

  pub sizes_of_points : {r : ℕ} → r ≡ points_check axes (place_of points) → r ≡ lowest (drop 1 (sizes_rows (sizes_of axes all))) 0
  unfolding points_check
  sizes_of_points e = e ∙ ap (λ (n : ℕ → ℕ). lowest (points_rows axes n) 0) same

  pub knots_of_points : (knots : List Float) {r : Bool} → r ≡ knots_of_points_refused axes (place_of points) knots
      → r ≡ some_knots_refused (grid axes all knots)
  knots_of_points knots e = e ∙ ap (λ (n : ℕ → ℕ). knots_of_points_refused axes n knots) same
