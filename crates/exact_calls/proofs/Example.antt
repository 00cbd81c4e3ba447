-- An example: the samples 0 1 0 at the knots 0 1 2, with no second derivative at either end, have the moment -3 in the middle, as the rules
-- compute it over the rational numbers.
use mathlib.Core.Path.{◌≡◌, refl}
use mathlib.Core.Quot.{sound}
use Prim.Native.Nat.{ℕ, zero, suc}
use native.Mathlib.Decide.{dec_lt}
use Rattle.exact_rationals.specs.Rationals.{ℚ, rationals, number, negative, plus, minus, times, over, reciprocal, inverted}
use Rattle.exact_spline.specs.Ends.{Condition, Endpoints, SecondDerivative}
use Rattle.exact_spline.specs.Steps as Steps
use Rattle.exact_spline.specs.Solve as Solve
use Rattle.exact_spline.specs.Moments.{moment}

hat : ℕ → ℚ
hat zero = number 0
hat (suc zero) = number 1
hat (suc (suc k)) = number 0

natural : Condition ℚ
natural = Endpoints (SecondDerivative (number 0)) (SecondDerivative (number 0))

middle_moment : moment rationals number hat 2 natural 1 ≡ negative (number 3)
unfolding moment Solve.thomas Steps.h Steps.s Steps.u hat natural number negative plus minus times over reciprocal inverted dec_lt
middle_moment = sound refl
