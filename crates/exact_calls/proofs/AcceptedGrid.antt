-- What refusals 2, 8 and 9 let pass of a grid is all that the spline of splines asks for; so the rules computed without rounding, from the
-- exact values of the samples to the value in any cell, give it.
use mathlib.Core.Path.{◌≡◌}
use mathlib.Core.Bool.{false}
use mathlib.Core.List.{List}
use Prim.Native.Nat.{ℕ, ◌+◌, ◌<◌}
use lib.Ieee.{Float}
use Rattle.rules.specs.Sizes as Sizes
use Rattle.rules.specs.Refusals.{knots_refused, some_knots_refused, fewness_refused, some_fewness_refused}
use Rattle.base_numbers.proofs.Scan.{any_at}
use Rattle.exact_rationals.specs.Rationals.{ℚ, rationals}
use Rattle.exact_rationals.proofs.OrderedField.{rationals_are_a_field, rationals_are_ordered}
use Rattle.exact_spline.specs.Tensor.{sample}
use Rattle.exact_spline.specs.Query.{value_from}
use Rattle.exact_spline.specs.Nested.{Sound, nested_splines}
use Rattle.exact_spline.proofs.TheSurface.{the_surface_is_the_spline_of_splines}
use Rattle.exact_calls.specs.Exactly.{values, exact_grid}
use Rattle.exact_calls.proofs.AcceptedAxis.{knots_rise, points_enough}

-- cells that lie inside: on each axis in use the lower knot has one after it
abbrev pub Inside : Sizes.Grid → Sizes.Place → Type 0
Inside g cells = (i : ℕ) → i < g.axes → cells i + 1 < Sizes.points g i

module _ (g : Sizes.Grid) (eight : some_knots_refused g ≡ false) (nine : some_fewness_refused g ≡ false) where
  pub accepted_sound : (cells : Sizes.Place) → Inside g cells → Sound rationals rationals_are_ordered (exact_grid g) cells
  accepted_sound cells inside =
      record {
        rising = λ i used.
            knots_rise (Sizes.knots g i) (Sizes.points g i)
            (any_at (λ j. knots_refused (Sizes.knots g j) (Sizes.points g j)) g.axes eight i used);
        enough = λ i used.
            points_enough (Sizes.condition g i) (Sizes.points g i)
            (any_at (λ j. fewness_refused (Sizes.condition g j) (Sizes.points g j)) g.axes nine i used);
        inside = inside;
      }

  pub accepted_surface :
      (samples : List Float) (cells : Sizes.Place) → Inside g cells → (point : ℕ → ℚ)
      → value_from rationals (exact_grid g) (sample rationals (exact_grid g) (values samples)) cells point
      ≡ nested_splines rationals g.axes (exact_grid g) (sample rationals (exact_grid g) (values samples)) cells point
  accepted_surface samples cells inside =
      the_surface_is_the_spline_of_splines rationals rationals_are_a_field rationals_are_ordered (exact_grid g) (values samples) cells
      (accepted_sound cells inside)
