-- What was measured is read by the firmware's call: asked at the knots of a place of its sheet, it answers the pattern of a number that
-- equals the sheet's sample there.
use Rattle.std.specs.Prelude.{◌≡◌, true, false, List, ℕ, ◌<◌}
use Rattle.std.specs.Float.{binary64}
use Rattle.std.specs.Float.Ieee.{of_bits, eq}
use Rattle.rules.specs.Numbers.{at}
use Rattle.rules.specs.Sizes.{points, knots, Place, flat}
use Rattle.grid.specs.GridOfCall.{On}
use Rattle.sheet_patterns.specs.Patterns.{pattern, unused_refused}
use Rattle.sheet_read.specs.Fields.{sheet_grid, sheet_samples}
use Rattle.sheet_build.specs.SheetTensor.{own_refusal}
use Rattle.sheet_surface.specs.SheetSurface.{stack_refused, surface_refusal, SurfacePromise}

-- a sheet whose tensor is built, and is small enough for this call; and patterns that past the axes of the sheet are 0, and on each of them
-- that of a number equal to the knot of a place, −0.0 and +0.0 alike
pub record PatternsAtPlace (bytes patterns : List ℕ) (place : Place) : Type 0 where
  pub accepted : own_refusal bytes ≡ 0
  pub small : stack_refused (sheet_grid bytes) ≡ false
  pub zeros : unused_refused (sheet_grid bytes).axes patterns ≡ false
  pub on_grid : On (sheet_grid bytes) place
  pub equal :
      (i : ℕ) → i < (sheet_grid bytes).axes → eq (of_bits binary64 (pattern patterns i)) (at (knots (sheet_grid bytes) i) (place i)) ≡ true

-- nothing is refused, and the pattern is that of a number equal to the sample
abbrev pub FirmwareReads : Type 0
FirmwareReads =
    (bytes patterns : List ℕ) (place : Place) (given : ℕ) → PatternsAtPlace bytes patterns place → SurfacePromise bytes patterns given
    → (surface_refusal bytes patterns ≡ 0)
    × (eq (of_bits binary64 given) (at (sheet_samples bytes) (flat (points (sheet_grid bytes)) (sheet_grid bytes).axes place)) ≡ true)
