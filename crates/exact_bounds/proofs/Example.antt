-- An example: of the samples 0 1 0 at the knots 0 1 2, with no second derivative at either end, the moment in the middle, which is -3, has
-- a bound below 37 times 2 to the -53.
use mathlib.Core.Path.{◌≡◌, refl}
use mathlib.Core.Bool.{Bool, true, false}
use mathlib.Core.List.{[], ◌∷◌}
use native.Mathlib.Decide.{dec_lt}
use lib.Ieee as Ieee
use Rattle.rules.specs.Numbers.{plus_zero, one, two}
use Rattle.rules.specs.declared.End.TheVariants.{SecondDerivative}
use Rattle.rules.specs.declared.Condition.{Condition}
use Rattle.rules.specs.declared.Condition.TheVariants.{Endpoints}
use Rattle.exact_rationals.specs.Rationals.{
  ℚ,
  number,
  negative,
  plus,
  minus,
  times,
  over,
  reciprocal,
  inverted,
  Positive,
  decide_positive,
}
use Rattle.exact_spline.specs.Steps as Steps
use Rattle.exact_spline.specs.Solve as Solve
use Rattle.exact_spline.specs.Moments.{moment}
use Rattle.exact_bounds.specs.Bounds.{Bound, unknown, within, u, moment_bound}

-- whether a bound is there, and below a number
positive : (x : ℚ) → Dec (Positive x) → Bool
positive x (yes h) = true
positive x (no h) = false

below : Bound → ℚ → Bool
below unknown b = false
below (within e) b = positive (minus b e) (decide_positive (minus b e))

natural : Condition
natural = Endpoints (SecondDerivative plus_zero) (SecondDerivative plus_zero)

middle_bound : below (moment_bound (plus_zero ∷ one ∷ two ∷ []) (plus_zero ∷ one ∷ plus_zero ∷ []) 2 natural 1) (times (number 37) u) ≡ true
unfolding moment Solve.thomas Steps.h Steps.s Steps.u below positive natural number negative plus minus times over reciprocal inverted dec_lt
    decide_positive Ieee.of_bits Ieee.add Ieee.sub Ieee.mul Ieee.div
middle_bound = refl
