-- Where the host refuses nothing of many points, each can be answered by its points and modes, and has its places.
use mathlib.Core.Path.{◌≡◌, sym, ◌∙◌}
use mathlib.Core.List.{List}
use Prim.Native.Nat.{ℕ, ◌*◌, ◌≤◌}
use lib.ListN.{length}
use lib.Ieee.{Float}
use borrow.Author.Tests.{ltb-false}
use Rattle.rules.specs.Sizes.{knots_length, tensor_length}
use Rattle.grid_checks.proofs.Rows.{NoneApplies, none_applies, axes_few, in_range, exact, exact_3}
use Rattle.c_refusals.specs.OwnRefusals.{sizes_given}
use Rattle.c_refusals.proofs.Rows.{refused_given, sum_given, product_given}
use Rattle.many_points.specs.PointByPoint.{PointsFit}
use Rattle.many_points.proofs.InTurn.{coordinates_of_point}
use Rattle.query_answer.specs.PointsAndModes.{QueryFits}
use Rattle.c_many.specs.ManyExports.{queries_own_rows, queries_own_refusal}

module _ (axes : ℕ) (points modes : List ℕ) (knots tensor coordinates values : List Float) (labels refusals : List ℕ)
    (none : queries_own_refusal axes points modes knots tensor coordinates values labels refusals ≡ 0) where
  rows : NoneApplies (queries_own_rows axes points modes knots tensor coordinates values labels refusals)
  unfolding queries_own_refusal
  rows = none_applies (queries_own_rows axes points modes knots tensor coordinates values labels refusals) tt none

  some_few : (1 ≤ axes) × (axes ≤ 4)
  some_few = axes_few {axes = axes} rows.0

  pub few : axes ≤ 4
  few = some_few.1

  lengths : (length coordinates ≡ axes * length refusals) × (length values ≡ length refusals) × (length labels ≡ 4 * length refusals)
  lengths =
      exact_3 (length coordinates) (axes * length refusals) (length values) (length refusals) (length labels) (4 * length refusals)
      rows.1.1.1.1.1.1.1.0

  pub points_fit : PointsFit (QueryFits axes points modes knots tensor) axes coordinates values labels (length refusals)
  points_fit =
      let g = sizes_given axes points in
      let products = product_given axes points few in
      record {
        fits = λ j l. record {
          search_fits = record {
            four_points = exact (length points) 4 rows.1.0;
            four_modes = exact (length modes) 4 rows.1.1.1.1.0;
            in_range = in_range some_few.0 few (sym (refused_given axes points few) ∙ rows.1.1.0);
            knots_exact = exact (length knots) (knots_length g) rows.1.1.1.1.1.0 ∙ sum_given axes points few;
            coordinates_exact = coordinates_of_point axes (length refusals) coordinates lengths.0 j l;
          };
          small = rw products at (ltb-false 4096 (tensor_length g) rows.1.1.1.0);
          tensor_exact = rw products at (exact (length tensor) (tensor_length g) rows.1.1.1.1.1.1.0);
        };
        coordinates_exact = lengths.0;
        values_exact = lengths.1;
        labels_exact = lengths.2;
      }
