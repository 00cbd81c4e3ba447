-- What sizes and lengths refuse of many points, and what they leave: each point can be answered, and has its places.
use mathlib.Core.Path.{◌≡◌, refl, sym, ap, ◌∙◌}
use mathlib.Core.Bool.{Bool, cond, ◌||◌}
use mathlib.Core.List.{List}
use Prim.Native.Nat.{ℕ, ◌*◌, ◌≤◌}
use lib.ListN.{length}
use lib.Ieee.{Float}
use Rattle.rules.specs.Sizes.{Grid, knots_length, tensor_length, place_of}
use Rattle.rules.specs.Refusals.{length_refused}
use Rattle.rules.specs.Calls.{or_else}
use Rattle.rules.specs.declared.Axis.{Axis}
use Rattle.rules.proofs.Cases.{passed}
use Rattle.rules.proofs.Refused.{or_else_passed}
use Rattle.grid.specs.GridOfCall.{grid, points_of}
use Rattle.grid_checks.specs.Check.{query_sizes_rows, query_sizes_check}
use Rattle.grid_checks.proofs.Rows.{rows_then, none_applies, axes_few, length_fits, exact_3}
use Rattle.query_answer.specs.PointsAndModes.{QueryFits}
use Rattle.query_answer.proofs.Promised.{query_fits}
use Rattle.many_points.specs.ManyPoints.{point_of, points_lengths_refused}
use Rattle.many_points.specs.PointByPoint.{PointsFit}
use Rattle.many_points.proofs.InTurn.{asked_in_turn, coordinates_of_point}
use Rattle.query_many.specs.ManyCalls.{queries_refusal}

pub some_axes :
    (axes : ℕ) (n : ℕ → ℕ) (knots tensor coordinates : ℕ) {number : ℕ} → number ≡ query_sizes_check axes n knots tensor coordinates
    → number ≡ 0 → 1 ≤ axes
unfolding query_sizes_check
some_axes axes n knots tensor coordinates e none =
    (axes_few (none_applies (query_sizes_rows axes n knots tensor coordinates) tt (sym e ∙ none)).0).0

module _ (axes : ℕ) (all : List Axis) (x tensor coordinates values : List Float) (labels refusals : List ℕ) where
  abbrev given : Grid
  given = grid axes all x

  abbrev lent_refused : Bool
  lent_refused = points_lengths_refused axes (length coordinates) (length values) (length labels) (length refusals)

  pub refusal_is :
      queries_refusal given tensor coordinates values labels refusals
      ≡ or_else (query_sizes_check axes (points_of all) (length x) (length tensor) axes) (cond lent_refused 4 0)
  unfolding queries_refusal query_sizes_check
  refusal_is =
      rw (asked_in_turn (length_refused (length x) (knots_length given) || length_refused (length tensor) (tensor_length given))
      lent_refused (length_refused axes axes) (length_fits axes axes refl))
      (rows_then (query_sizes_rows axes (points_of all) (length x) (length tensor) axes) (cond lent_refused 4 0) tt)

  -- the number that code finds by the points of the axes
  pub refusal_met :
      (points_in : List ℕ) → place_of points_in ≡ points_of all → {r : ℕ}
      → r ≡ or_else (query_sizes_check axes (place_of points_in) (length x) (length tensor) axes) (cond lent_refused 4 0)
      → r ≡ queries_refusal given tensor coordinates values labels refusals
  refusal_met points_in same e =
      e
      ∙ ap (λ (n : ℕ → ℕ). or_else (query_sizes_check axes n (length x) (length tensor) axes) (cond lent_refused 4 0)) same
      ∙ sym refusal_is

-- where nothing is refused
module _ (axes : ℕ) (points_in modes_in : List ℕ) (x tensor coordinates values : List Float) (labels refusals : List ℕ)
    (four_points : length points_in ≡ 4) (four_modes : length modes_in ≡ 4)
    (none : or_else (query_sizes_check axes (place_of points_in) (length x) (length tensor) axes)
    (cond (points_lengths_refused axes (length coordinates) (length values) (length labels) (length refusals)) 4 0) ≡ 0) where
  -- both tests are passed
  both : (query_sizes_check axes (place_of points_in) (length x) (length tensor) axes ≡ 0)
      × (cond {A = ℕ} (points_lengths_refused axes (length coordinates) (length values) (length labels) (length refusals)) 4 0 ≡ 0)
  both =
      or_else_passed (query_sizes_check axes (place_of points_in) (length x) (length tensor) axes)
      (cond (points_lengths_refused axes (length coordinates) (length values) (length labels) (length refusals)) 4 0) none

  lengths : (length coordinates ≡ axes * length refusals) × (length values ≡ length refusals) × (length labels ≡ 4 * length refusals)
  lengths =
      exact_3 (length coordinates) (axes * length refusals) (length values) (length refusals) (length labels) (4 * length refusals)
      (passed _ 3 0 both.1).0

  pub few : axes ≤ 4
  unfolding query_sizes_check
  few = (axes_few (none_applies (query_sizes_rows axes (place_of points_in) (length x) (length tensor) axes) tt both.0).0).1

  pub points_fit : PointsFit (QueryFits axes points_in modes_in x tensor) axes coordinates values labels (length refusals)
  points_fit = record {
    fits = λ j l.
        query_fits axes points_in modes_in x tensor (point_of axes coordinates j) four_points four_modes
        (rw (coordinates_of_point axes (length refusals) coordinates lengths.0 j l) both.0);
    coordinates_exact = lengths.0;
    values_exact = lengths.1;
    labels_exact = lengths.2;
  }
