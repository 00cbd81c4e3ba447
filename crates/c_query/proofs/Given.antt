-- Where the host itself refuses nothing, a query can be answered by its points and modes, which are those of the axes that its promise is
-- made of.
use mathlib.Core.Path.{◌≡◌, refl, sym, ◌∙◌}
use mathlib.Core.List.{List, []}
use Prim.Native.Nat.{ℕ, zero, suc, ◌<◌, ◌≤◌}
use native.Mathlib.Omega.{arith}
use lib.Ieee.{Float}
use borrow.Author.Tests.{lt-ltb}
use Rattle.rules.specs.Sizes.{place_of}
use Rattle.rules.specs.declared.Axis.{Axis}
use Rattle.grid_codes.specs.Modes.{mode_of_number}
use Rattle.c_axes.specs.Axes.{axis_without_ends, axes_without_ends, axis_in_mode, axes_in_modes}
use Rattle.c_axes.proofs.InModes.{modes_put_in}
use Rattle.c_refusals.proofs.Rows.{given_below}
use Rattle.c_refusals.proofs.Lengths.{OwnFits}
use Rattle.query_answer.specs.PointsAndModes.{modes_of, AxesOf, QueryFits}

pub query_fits :
    {axes : ℕ} {points modes : List ℕ} {knots tensor coordinates value : List Float} {labels : List ℕ}
    → OwnFits axes points modes knots tensor coordinates value labels → QueryFits axes points modes knots tensor coordinates
query_fits own = record {
  search_fits = record {
    four_points = own.four_points;
    four_modes = own.four_modes;
    in_range = own.in_range;
    knots_exact = own.knots_exact;
    coordinates_exact = own.coordinates_exact;
  };
  small = own.small;
  tensor_exact = own.tensor_exact;
}

module _ (axes : ℕ) (points modes : List ℕ) (few : axes ≤ 4) where
  abbrev moded : List Axis
  moded = axes_in_modes axes (axes_without_ends axes points) modes

  modes_given : (i : ℕ) → i < axes → modes_of moded i ≡ mode_of_number (place_of modes i)
  unfolding axes_in_modes axis_in_mode
  modes_given zero l = rw (lt-ltb 0 axes l) refl
  modes_given (suc zero) l = rw (lt-ltb 1 axes l) refl
  modes_given (suc (suc zero)) l = rw (lt-ltb 2 axes l) refl
  modes_given (suc (suc (suc zero))) l = rw (lt-ltb 3 axes l) refl
  modes_given (suc (suc (suc (suc i)))) l = absurd (omega arith)

  pub axes_given : AxesOf axes points modes moded
  unfolding axes_without_ends
  axes_given = record {
    points_are = λ i l. sym ((modes_put_in (axis_without_ends axes points) axes modes []).same_points i) ∙ given_below axes points few i l;
    modes_are = modes_given;
  }
