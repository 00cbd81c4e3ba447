-- Modes that are put into axes leave their points and their ends as they are.
use mathlib.Core.Path.{◌≡◌, refl}
use mathlib.Core.Bool.{Bool, true, false, cond}
use mathlib.Core.List.{List}
use Prim.Native.Nat.{ℕ, zero, suc}
use lib.Dec.{ltb}
use lib.Ieee.{Float}
use Rattle.rules.specs.Numbers.{table}
use Rattle.rules.specs.Sizes.{most_axes, Grid, points, condition}
use Rattle.rules.specs.Outside.{with_axes, ButForModes}
use Rattle.rules.specs.declared.Mode.{Mode}
use Rattle.rules.specs.declared.Axis.{Axis}
use Rattle.c_axes.specs.Axes.{axis_in_mode, axes_in_modes}

points_left : (in_use : Bool) (axis : Axis) (mode : Mode)
    → axis.points ≡ (cond in_use (record { points = axis.points; condition = axis.condition; mode = mode }) axis).points
points_left true axis mode = refl
points_left false axis mode = refl

ends_left : (in_use : Bool) (axis : Axis) (mode : Mode)
    → axis.condition ≡ (cond in_use (record { points = axis.points; condition = axis.condition; mode = mode }) axis).condition
ends_left true axis mode = refl
ends_left false axis mode = refl

module _ (axis : ℕ → Axis) (n : ℕ) (modes : List ℕ) (x : List Float) where
  abbrev g : Grid
  g = record { axes = n; entries = table most_axes axis; flat_knots = x }

  abbrev moded : List Axis
  moded = axes_in_modes n (table most_axes axis) modes

  pub modes_put_in : ButForModes g moded
  unfolding axes_in_modes axis_in_mode
  modes_put_in = record { same_points = sizes; same_condition = ends }
    where
      sizes : (i : ℕ) → points g i ≡ points (with_axes g moded) i
      sizes zero = points_left (ltb 0 n) (axis 0) _
      sizes (suc zero) = points_left (ltb 1 n) (axis 1) _
      sizes (suc (suc zero)) = points_left (ltb 2 n) (axis 2) _
      sizes (suc (suc (suc zero))) = points_left (ltb 3 n) (axis 3) _
      sizes (suc (suc (suc (suc i)))) = refl

      ends : (i : ℕ) → condition g i ≡ condition (with_axes g moded) i
      ends zero = ends_left (ltb 0 n) (axis 0) _
      ends (suc zero) = ends_left (ltb 1 n) (axis 1) _
      ends (suc (suc zero)) = ends_left (ltb 2 n) (axis 2) _
      ends (suc (suc (suc zero))) = ends_left (ltb 3 n) (axis 3) _
      ends (suc (suc (suc (suc i)))) = refl
