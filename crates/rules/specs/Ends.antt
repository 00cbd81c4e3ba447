-- The chapter Ends of docs/RULES.md: the conditions that have names, the ends of a spline through derivatives, and the fewest points that
-- an axis needs.
use Rattle.std.specs.Prelude.{ℕ, zero, suc, ◌+◌, Float}
use Rattle.rules.specs.Numbers.{plus_zero}
use Rattle.rules.specs.declared.End.{End}
use Rattle.rules.specs.declared.End.TheVariants.{NotAKnot, FirstDerivative, SecondDerivative}
use Rattle.rules.specs.declared.Condition.{Condition}
use Rattle.rules.specs.declared.Condition.TheVariants.{Endpoints, Periodic}

-- NotAKnot at either end
abbrev pub not_a_knot : Condition
not_a_knot = Endpoints NotAKnot NotAKnot

-- a second derivative of +0.0 at either end
abbrev pub natural : Condition
natural = Endpoints (SecondDerivative plus_zero) (SecondDerivative plus_zero)

-- a first derivative at either end, under the name that the Rust has for such a pair
abbrev pub clamped : Float → Float → Condition
clamped lower upper = Endpoints (FirstDerivative lower) (FirstDerivative upper)

-- the whole axis periodic
abbrev pub periodic : Condition
periodic = Periodic

-- a first derivative at either end, with a number for each
abbrev pub first_derivative : Float → Float → Condition
first_derivative lower upper = Endpoints (FirstDerivative lower) (FirstDerivative upper)

-- a second derivative at either end, likewise
abbrev pub second_derivative : Float → Float → Condition
second_derivative lower upper = Endpoints (SecondDerivative lower) (SecondDerivative upper)

-- an end without its number: its kind stays, and +0.0 stands for the number
abbrev pub zero_valued : End → End
zero_valued NotAKnot = NotAKnot
zero_valued (FirstDerivative value) = FirstDerivative plus_zero
zero_valued (SecondDerivative value) = SecondDerivative plus_zero

-- a condition whose two ends are so; Periodic has no number
abbrev pub crossed : Condition → Condition
crossed (Endpoints lower upper) = Endpoints (zero_valued lower) (zero_valued upper)
crossed Periodic = Periodic

-- what a spline through the numbers at a mask takes: through the samples, at mask 0, the condition itself, and through derivatives the
-- crossed one
abbrev pub condition_at : ℕ → Condition → Condition
condition_at zero condition = condition
condition_at (suc mask) condition = crossed condition

-- how many unknowns an end takes out of the system: NotAKnot its own moment, the others none
abbrev pub dropped : End → ℕ
dropped NotAKnot = 1
dropped (FirstDerivative value) = 0
dropped (SecondDerivative value) = 0

-- the fewest points for refusal 9: two, and one more for each unknown that is dropped
abbrev pub fewest_points : Condition → ℕ
fewest_points (Endpoints lower upper) = 2 + dropped lower + dropped upper
fewest_points Periodic = 2
