-- What the ends of a spline drop.
use Prim.Native.Nat.{◌≤◌}
use native.Mathlib.Omega.{arith}
use Rattle.rules.specs.Ends.{dropped}
use Rattle.rules.specs.declared.End.{End}
use Rattle.rules.specs.declared.End.TheVariants.{NotAKnot, FirstDerivative, SecondDerivative}

-- an end drops one unknown at most
pub dropped_most : (end : End) → dropped end ≤ 1
dropped_most NotAKnot = omega arith
dropped_most (FirstDerivative v) = omega arith
dropped_most (SecondDerivative v) = omega arith
