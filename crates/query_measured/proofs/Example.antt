-- What the theorem asks can be met: knots −0.0 1 3 and 0 2, the first place on axis 0 asked for by +0.0, the axes in hold and refuse, a
-- tensor with −0.0 there and the largest of numbers beside it.
use native.Mathlib.Omega.{arith}
use mathlib.Core.Path.{◌≡◌, refl}
use mathlib.Core.List.{List, [], ◌∷◌, ◌++◌, map}
use mathlib.Core.Bool.{true}
use Prim.Native.Nat.{ℕ, zero, suc, ◌<◌}
use lib.ListN.{replicate}
use lib.Ieee.{Float, binary64, of_bits, sub, lt, eq}
use lib.Ieee.Bits.{of_bits-fits}
use lib.Ieee.Fits.{nan-fits}
use Rattle.rules.specs.Numbers.{at, any}
use Rattle.rules.specs.Ends.{natural}
use Rattle.rules.specs.Sizes.{Grid, points, knots, sum_below, product_below, unused_axis, place_of, flat}
use Rattle.rules.specs.Refusals.{step_refused}
use Rattle.rules.specs.Calls.{QueryPromise}
use Rattle.rules.specs.declared.Axis.{Axis}
use Rattle.rules.specs.declared.Mode.{Mode}
use Rattle.rules.specs.declared.Mode.TheVariants.{Hold, Refuse}
use Rattle.rules.specs.Answers.{QueryAnswer}
use Rattle.base_floats.specs.Place.{AllFit}
use Rattle.query_measured.specs.Measured.{Surface, AtPlace, Reads}
use Rattle.query_measured.proofs.Measured.{measured_is_read}

-- the floats of bit patterns
abbrev pub patterns : List ℕ → List Float
patterns bits = map (λ (b : ℕ). of_bits binary64 b) bits

pub patterns_fit : (bits : List ℕ) → AllFit (patterns bits)
patterns_fit [] k = nan-fits binary64
patterns_fit (b ∷ bits) zero = of_bits-fits binary64 b
patterns_fit (b ∷ bits) (suc k) = patterns_fit bits k

abbrev pub axis : ℕ → Mode → Axis
axis points mode = record { points = points; condition = natural; mode = mode }

abbrev knot_bits : List ℕ
knot_bits = 0x8000_0000_0000_0000 ∷ 0x3FF0_0000_0000_0000 ∷ 0x4008_0000_0000_0000 ∷ 0 ∷ 0x4000_0000_0000_0000 ∷ []

abbrev grid : Grid
grid = record { axes = 2; entries = axis 3 Hold ∷ axis 2 Refuse ∷ unused_axis ∷ unused_axis ∷ []; flat_knots = patterns knot_bits }

-- the largest number, twenty-four times, but −0.0 for the value at the place
abbrev tensor_bits : List ℕ
tensor_bits = replicate 4 0x7FEF_FFFF_FFFF_FFFF ++ (0x8000_0000_0000_0000 ∷ replicate 19 0x7FEF_FFFF_FFFF_FFFF)

abbrev place : ℕ → ℕ
place = place_of (0 ∷ 1 ∷ 0 ∷ 0 ∷ [])

abbrev coordinate_bits : List ℕ
coordinate_bits = 0 ∷ 0x4000_0000_0000_0000 ∷ []

surface : Surface grid (patterns tensor_bits)
unfolding any sum_below product_below step_refused of_bits lt sub
surface = record {
  axes_fine = refl;
  points_fine = refl;
  tensor_fine = refl;
  knots_exact = refl;
  tensor_exact = refl;
  knots_finite = refl;
  knots_rise = refl;
  tensor_finite = refl;
  knots_fit = patterns_fit knot_bits;
  tensor_fit = patterns_fit tensor_bits;
}

on_the_grid : (i : ℕ) → i < 2 → place i < points grid i
on_the_grid zero l = omega arith
on_the_grid (suc zero) l = omega arith
on_the_grid (suc (suc i)) l = absurd (omega arith)

equal_knots : (i : ℕ) → i < 2 → eq (at (patterns coordinate_bits) i) (at (knots grid i) (place i)) ≡ true
unfolding sum_below of_bits eq
equal_knots zero l = refl
equal_knots (suc zero) l = refl
equal_knots (suc (suc i)) l = absurd (omega arith)

at_place : AtPlace grid place (patterns coordinate_bits)
at_place = record { exact = refl; on_grid = on_the_grid; equal = equal_knots; fit = patterns_fit coordinate_bits }

pub example : (given : QueryAnswer) → QueryPromise grid (patterns tensor_bits) (patterns coordinate_bits) given
    → Reads grid place (at (patterns tensor_bits) 4) given
unfolding flat
example given promise = measured_is_read grid (patterns tensor_bits) (patterns coordinate_bits) place given surface at_place promise
