-- What is known of a surface: its sizes, and that its numbers are finite numbers of an f64, as are the knots of each axis, which rise by
-- finite steps.
use native.Mathlib.Omega.{arith}
use mathlib.Core.Path.{◌≡◌}
use mathlib.Core.List.{List}
use mathlib.Core.Bool.{false}
use Prim.Native.Nat.{ℕ, ◌<◌, ◌≤◌}
use lib.ListN.{length}
use lib.Ieee.{Float}
use lib.Ieee.Scale.{finite}
use borrow.Author.Tests.{ltb-false, not-false}
use Rattle.rules.specs.Numbers.{at}
use Rattle.rules.specs.Sizes.{most_in_a_tensor, Grid, points, knots, tensor_length}
use Rattle.rules.specs.Refusals.{number_refused, knots_refused}
use Rattle.base_numbers.proofs.Scan.{any_at}
use Rattle.base_floats.specs.Place.{Real}
use Rattle.grid.specs.GridOfCall.{InRange}
use Rattle.grid_checks.proofs.Accepted.{knots_step}
use Rattle.grid_checks.proofs.Rows.{axes_few, in_range}
use Rattle.query_answer.proofs.Accepted.{rising_on_axis}
use Rattle.query_quick.proofs.QuickIsFull.{axis_fits}
use Rattle.query_measured.specs.Measured.{Surface}
use Rattle.query_measured.proofs.Knots.{Knots}

module _ (g : Grid) (tensor : List Float) (S : Surface g tensor) where
  pub range : InRange g.axes (points g)
  range = let count = axes_few {axes = g.axes} S.axes_fine in in_range count.0 count.1 S.points_fine

  pub small : tensor_length g ≤ most_in_a_tensor
  small = ltb-false most_in_a_tensor (tensor_length g) S.tensor_fine

  pub number_real : (e : ℕ) → e < tensor_length g → Real (at tensor e)
  number_real e l = record {
    fits = S.tensor_fit e;
    finite =
        not-false (finite (at tensor e))
        (any_at (λ k. number_refused (at tensor k)) (length tensor) S.tensor_finite e (omega (arith, S.tensor_exact)));
  }

  module _ (i : ℕ) (axis : i < g.axes) where
    no_8 : knots_refused (knots g i) (points g i) ≡ false
    no_8 = any_at (λ j. knots_refused (knots g j) (points g j)) g.axes S.knots_rise i axis

    pub axis_knots : Knots (knots g i) (points g i)
    axis_knots = record {
      some = range.some_points i axis;
      rising = rising_on_axis g S.knots_exact S.knots_finite i axis no_8;
      steps = λ k l. (knots_step (knots g i) (points g i) no_8 k l).1;
      fit = axis_fits g S.knots_fit i;
    }
