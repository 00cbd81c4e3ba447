-- What sizes and lengths refuse of many points to step at, and what they leave.
use mathlib.Core.Path.{◌≡◌, refl, sym, ap, ◌∙◌}
use mathlib.Core.Bool.{Bool, cond, ◌||◌}
use mathlib.Core.List.{List}
use Prim.Native.Nat.{ℕ, ◌*◌, ◌≤◌}
use lib.ListN.{length}
use lib.Ieee.{Float}
use Rattle.rules.specs.Sizes.{Grid, knots_length, samples_length, place_of}
use Rattle.rules.specs.Refusals.{length_refused}
use Rattle.rules.specs.Calls.{or_else}
use Rattle.rules.specs.declared.Axis.{Axis}
use Rattle.rules.specs.declared.StepDirection.{StepDirection}
use Rattle.rules.proofs.Cases.{passed}
use Rattle.rules.proofs.Refused.{or_else_passed}
use Rattle.grid.specs.GridOfCall.{grid, points_of}
use Rattle.grid_checks.proofs.Rows.{rows_then, none_applies, axes_few, length_fits, exact_3}
use Rattle.many_points.specs.ManyPoints.{points_lengths_refused}
use Rattle.many_points.specs.PointByPoint.{PointsFit}
use Rattle.many_points.proofs.InTurn.{asked_in_turn, coordinates_of_point}
use Rattle.step_checks.specs.StepChecks.{stepped_sizes_rows, stepped_sizes_check}
use Rattle.step_many.specs.ManySteps.{stepped_many_refusal}

pub some_axes :
    (axes : ℕ) (n : ℕ → ℕ) (knots samples coordinates : ℕ) {number : ℕ} → number ≡ stepped_sizes_check axes n knots samples coordinates
    → number ≡ 0 → 1 ≤ axes
unfolding stepped_sizes_check
some_axes axes n knots samples coordinates e none =
    (axes_few (none_applies (stepped_sizes_rows axes n knots samples coordinates) tt (sym e ∙ none)).0).0

module _ (axes : ℕ) (all : List Axis) (x : List Float) (directions : List StepDirection) (samples coordinates values : List Float)
    (indices refusals : List ℕ) where
  abbrev given : Grid
  given = grid axes all x

  abbrev lent_refused : Bool
  lent_refused = points_lengths_refused axes (length coordinates) (length values) (length indices) (length refusals)

  refusal_is :
      stepped_many_refusal given directions samples coordinates values indices refusals
      ≡ or_else (stepped_sizes_check axes (points_of all) (length x) (length samples) axes) (cond lent_refused 4 0)
  unfolding stepped_many_refusal stepped_sizes_check
  refusal_is =
      rw (asked_in_turn (length_refused (length x) (knots_length given) || length_refused (length samples) (samples_length given))
      lent_refused (length_refused axes axes) (length_fits axes axes refl))
      (rows_then (stepped_sizes_rows axes (points_of all) (length x) (length samples) axes) (cond lent_refused 4 0) tt)

  -- the number that code finds by the points of the axes
  pub refusal_met :
      (points_in : List ℕ) → place_of points_in ≡ points_of all → {r : ℕ}
      → r ≡ or_else (stepped_sizes_check axes (place_of points_in) (length x) (length samples) axes) (cond lent_refused 4 0)
      → r ≡ stepped_many_refusal given directions samples coordinates values indices refusals
  refusal_met points_in same e =
      e
      ∙ ap (λ (n : ℕ → ℕ). or_else (stepped_sizes_check axes n (length x) (length samples) axes) (cond lent_refused 4 0)) same
      ∙ sym refusal_is

-- where the lengths of what is lent of the points are not refused
pub points_fit :
    (axes : ℕ) (coordinates values : List Float) (indices refusals : List ℕ)
    → cond {A = ℕ} (points_lengths_refused axes (length coordinates) (length values) (length indices) (length refusals)) 4 0 ≡ 0
    → PointsFit (λ (p : List Float). length p ≡ axes) axes coordinates values indices (length refusals)
points_fit axes coordinates values indices refusals none =
    let lengths =
    exact_3 (length coordinates) (axes * length refusals) (length values) (length refusals) (length indices) (4 * length refusals)
    (passed _ 3 0 none).0 in
    record {
      fits = coordinates_of_point axes (length refusals) coordinates lengths.0;
      coordinates_exact = lengths.0;
      values_exact = lengths.1;
      labels_exact = lengths.2;
    }

-- where nothing is refused, neither are sizes
pub both_pass :
    (axes : ℕ) (points_in : List ℕ) (x samples coordinates values : List Float) (indices refusals : List ℕ)
    → or_else (stepped_sizes_check axes (place_of points_in) (length x) (length samples) axes)
    (cond (points_lengths_refused axes (length coordinates) (length values) (length indices) (length refusals)) 4 0) ≡ 0
    → (stepped_sizes_check axes (place_of points_in) (length x) (length samples) axes ≡ 0)
    × PointsFit (λ (p : List Float). length p ≡ axes) axes coordinates values indices (length refusals)
both_pass axes points_in x samples coordinates values indices refusals none =
    let both =
    or_else_passed (stepped_sizes_check axes (place_of points_in) (length x) (length samples) axes)
    (cond (points_lengths_refused axes (length coordinates) (length values) (length indices) (length refusals)) 4 0) none in
    (both.0, points_fit axes coordinates values indices refusals both.1)
