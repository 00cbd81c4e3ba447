-- Where the knot lies below the next, their difference is finite just where it lies below the infinity (`rising_difference`); where it
-- does not, the step is refused whatever its width.
use mathlib.Core.Path.{◌≡◌, ap}
use mathlib.Core.Bool.{true, false, not, ◌||◌}
use lib.Ieee.{Float, binary64, lt, nan_bits, is_nan, of_bits}
use lib.Ieee.Scale.{finite}
use Rattle.rules.specs.Numbers.{◌⊖◌}
use Rattle.base_numbers.proofs.Finite.{infinity, rising_difference}
use Rattle.grid_checks.proofs.rising.step_refused.Goals as goal

where_it_rises : (knot next : Float) → lt knot next ≡ true
    → not (lt (next ⊖ knot) infinity) ≡ (not (lt knot next) || not (finite (next ⊖ knot)))
where_it_rises knot next e = rw e (ap not (rising_difference binary64 knot next e))

where_it_does_not : (knot next : Float) → lt knot next ≡ false → true ≡ (not (lt knot next) || not (finite (next ⊖ knot)))
where_it_does_not knot next e = rw e

pub float_from_bits-infinity : goal.float_from_bits-infinity
unfolding nan_bits is_nan of_bits
float_from_bits-infinity c = tt

pub returns-then-knot-next : goal.returns-then-knot-next
returns-then-knot-next c = where_it_rises _ _ c.if-knot-next.true

pub returns-else-knot-next : goal.returns-else-knot-next
returns-else-knot-next c = where_it_does_not _ _ c.if-knot-next.false
