-- What the theorem of even axes asks can be met: knots 0.1 0.2 0.3 0.4, whose knot 2 has direct cell 1, and −0.0 2, the first place there
-- asked for by +0.0, the axes in hold and refuse, a tensor with −0.0 at the place and the largest of numbers beside it.
use native.Mathlib.Omega.{arith}
use mathlib.Core.Path.{◌≡◌, refl}
use mathlib.Core.List.{List, [], ◌∷◌, ◌++◌}
use mathlib.Core.Bool.{true}
use Prim.Native.Nat.{ℕ, zero, suc, ◌-◌, ◌<◌}
use lib.ListN.{replicate}
use lib.Ieee as Ieee
use lib.Ieee.{eq}
use lib.Ieee.Scale.{finite}
use Rattle.rules.specs.Numbers.{◌⊖◌, at, any}
use Rattle.rules.specs.Sizes.{Grid, points, knots, sum_below, product_below, unused_axis, place_of, flat}
use Rattle.rules.specs.Steps.{h}
use Rattle.rules.specs.Refusals.{step_refused}
use Rattle.rules.specs.Even.{absolute, doubled, tolerance, first_that, first_failing}
use Rattle.rules.specs.EvenCalls.{EvenQueryPromise}
use Rattle.rules.specs.Answers.{EvenAnswer}
use Rattle.rules.specs.declared.Mode.TheVariants.{Hold, Refuse}
use Rattle.query_measured.specs.Measured.{Surface, AtPlace}
use Rattle.query_measured.specs.EvenMeasured.{EvenGrid, EvenReads}
use Rattle.query_measured.proofs.Example.{patterns, patterns_fit, axis}
use Rattle.query_measured.proofs.EvenMeasured.{even_measured_is_read}

abbrev knot_bits : List ℕ
knot_bits =
    0x3FB9_9999_9999_999A ∷ 0x3FC9_9999_9999_999A ∷ 0x3FD3_3333_3333_3333 ∷ 0x3FD9_9999_9999_999A
    ∷ 0x8000_0000_0000_0000 ∷ 0x4000_0000_0000_0000 ∷ []

abbrev grid : Grid
grid = record { axes = 2; entries = axis 4 Hold ∷ axis 2 Refuse ∷ unused_axis ∷ unused_axis ∷ []; flat_knots = patterns knot_bits }

-- the largest number, but −0.0 for the value at the place
abbrev tensor_bits : List ℕ
tensor_bits = replicate 16 0x7FEF_FFFF_FFFF_FFFF ++ (0x8000_0000_0000_0000 ∷ replicate 15 0x7FEF_FFFF_FFFF_FFFF)

abbrev place : ℕ → ℕ
place = place_of (2 ∷ 0 ∷ 0 ∷ 0 ∷ [])

abbrev coordinate_bits : List ℕ
coordinate_bits = 0x3FD3_3333_3333_3333 ∷ 0 ∷ []

surface : Surface grid (patterns tensor_bits)
unfolding any sum_below product_below step_refused Ieee.of_bits Ieee.lt Ieee.sub
surface = record {
  axes_fine = refl;
  points_fine = refl;
  tensor_fine = refl;
  knots_exact = refl;
  tensor_exact = refl;
  knots_finite = refl;
  knots_rise = refl;
  tensor_finite = refl;
  knots_fit = patterns_fit knot_bits;
  tensor_fit = patterns_fit tensor_bits;
}

wide : (i : ℕ) → i < 2 → finite (at (knots grid i) (points grid i - 1) ⊖ at (knots grid i) 0) ≡ true
unfolding sum_below Ieee.of_bits Ieee.sub Ieee.add Ieee.neg
wide zero l = refl
wide (suc zero) l = refl
wide (suc (suc i)) l = absurd (omega arith)

even_grid : EvenGrid grid
unfolding any sum_below h absolute doubled tolerance first_failing first_that Ieee.add Ieee.sub Ieee.mul Ieee.neg Ieee.lt Ieee.of_bits
even_grid = record { even = refl; wide = wide }

on_the_grid : (i : ℕ) → i < 2 → place i < points grid i
on_the_grid zero l = omega arith
on_the_grid (suc zero) l = omega arith
on_the_grid (suc (suc i)) l = absurd (omega arith)

equal_knots : (i : ℕ) → i < 2 → eq (at (patterns coordinate_bits) i) (at (knots grid i) (place i)) ≡ true
unfolding sum_below Ieee.of_bits eq
equal_knots zero l = refl
equal_knots (suc zero) l = refl
equal_knots (suc (suc i)) l = absurd (omega arith)

at_place : AtPlace grid place (patterns coordinate_bits)
at_place = record { exact = refl; on_grid = on_the_grid; equal = equal_knots; fit = patterns_fit coordinate_bits }

pub even_example :
    (given : EvenAnswer) → EvenQueryPromise grid (patterns tensor_bits) (patterns coordinate_bits) given
    → EvenReads grid place (at (patterns tensor_bits) 16) given
unfolding flat
even_example given promise =
    even_measured_is_read grid (patterns tensor_bits) (patterns coordinate_bits) place given surface even_grid at_place promise
