-- What is not promised, by an input for each: that the curve reads its samples, or the query of even axes where the last knot of an axis
-- less the first overflows; that slopes which count for nothing may be infinite; that the sign of a zero is read.
use Rattle.std.specs.Prelude.{◌≡◌, false, List, [], ◌∷◌, ℕ, Float}
use Rattle.std.specs.Float.{inf, binary64}
use Rattle.std.specs.Float.Ieee.{of_bits, neg, eq}
use Rattle.rules.specs.Numbers.{plus_zero, one, at, zeros}
use Rattle.rules.specs.Ends.{natural, clamped}
use Rattle.rules.specs.Sizes.{Grid, unused_axis}
use Rattle.rules.specs.Moments.{moments}
use Rattle.rules.specs.Calls.{CurvePromise, QueryPromise}
use Rattle.rules.specs.EvenCalls.{EvenQueryPromise}
use Rattle.rules.specs.Answers.{CurveAnswer, EvenAnswer, QueryAnswer}
use Rattle.rules.specs.declared.Mode.TheVariants.{Extend}
use Rattle.grid.specs.GridOfCall.{grid}

-- knots 0 1
abbrev knots_01 : List Float
knots_01 = plus_zero ∷ one ∷ []

-- samples 1 0
abbrev samples_10 : List Float
samples_10 = one ∷ plus_zero ∷ []

-- a grid of one axis
abbrev one_axis : ℕ → List Float → Grid
one_axis points knots =
    grid 1 (record { points = points; condition = natural; mode = Extend } ∷ unused_axis ∷ unused_axis ∷ unused_axis ∷ []) knots

-- of the knots 0 1
abbrev axis_01 : Grid
axis_01 = one_axis 2 knots_01

-- of the knots −1e308 0 1e308, an even axis whose last knot less the first overflows
abbrev wide_axis : Grid
wide_axis = one_axis 3 (of_bits binary64 0xFFE1_CCF3_85EB_C8A0 ∷ plus_zero ∷ of_bits binary64 0x7FE1_CCF3_85EB_C8A0 ∷ [])

pub record Exceptions : Type 0 where
  -- first derivatives 0 and 1: at knot 0 the curve is accepted, and its value is not equal to the sample
  pub curve :
      (given : CurveAnswer)
      → CurvePromise 2 knots_01 samples_10 (moments knots_01 1 (clamped plus_zero one) samples_10) (at knots_01 0) given
      → (given.refusal ≡ 0) × (eq given.value (at samples_10 0) ≡ false)
  -- a tensor of zeros: at the last knot of the wide axis the query of even axes is refused by 10; on an even axis whose last knot less the
  -- first is finite it reads its samples (EvenMeasured)
  pub even_axis : (given : EvenAnswer) → EvenQueryPromise wide_axis (zeros 6) (at wide_axis.flat_knots 2 ∷ []) given
      → given.refusal ≡ 10
  -- a slope beside the sample is infinite: the query at its knot is refused by 10
  pub infinite_slope : (given : QueryAnswer)
      → QueryPromise axis_01 (plus_zero ∷ inf false ∷ plus_zero ∷ plus_zero ∷ []) (plus_zero ∷ []) given → given.refusal ≡ 10
  -- the sample is −0.0: what is read is +0.0
  pub sign_of_a_zero : (given : QueryAnswer) → QueryPromise axis_01 (neg plus_zero ∷ zeros 3) (plus_zero ∷ []) given
      → given.value ≡ plus_zero
