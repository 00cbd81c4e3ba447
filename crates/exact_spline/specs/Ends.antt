-- The chapter Ends of docs/RULES.md, over any arithmetic: the ends of an axis and its condition, the ends of a spline through derivatives,
-- and the fewest points that an axis needs.
use Rattle.std.specs.Prelude.{ℕ, zero, suc, ◌+◌}
use Rattle.exact_arithmetic.specs.Arithmetic.{Arithmetic}

-- an end of an axis, with a number where it has one
pub data End (N : Type 0) : Type 0 where
  NotAKnot : End N
  FirstDerivative SecondDerivative : N → End N

-- both ends of an axis, lower first, or the whole axis periodic
pub data Condition (N : Type 0) : Type 0 where
  Endpoints : End N → End N → Condition N
  Periodic : Condition N

module _ {N : Type 0} where
  -- how many unknowns an end takes out of the system
  abbrev pub dropped : End N → ℕ
  dropped NotAKnot = 1
  dropped (FirstDerivative value) = 0
  dropped (SecondDerivative value) = 0

  -- the fewest points
  abbrev pub fewest_points : Condition N → ℕ
  fewest_points (Endpoints lower upper) = 2 + dropped lower + dropped upper
  fewest_points Periodic = 2

module _ (A : Arithmetic) where
  open A use {Number, nought}

  -- an end without its number: its kind stays, and nought stands for the number
  abbrev pub zero_valued : End Number → End Number
  zero_valued NotAKnot = NotAKnot
  zero_valued (FirstDerivative value) = FirstDerivative nought
  zero_valued (SecondDerivative value) = SecondDerivative nought

  -- a condition whose two ends are so
  abbrev pub crossed : Condition Number → Condition Number
  crossed (Endpoints lower upper) = Endpoints (zero_valued lower) (zero_valued upper)
  crossed Periodic = Periodic

  -- what a spline through the numbers at a mask takes: at mask 0 the condition itself, else the crossed one
  abbrev pub condition_at : ℕ → Condition Number → Condition Number
  condition_at zero condition = condition
  condition_at (suc mask) condition = crossed condition
