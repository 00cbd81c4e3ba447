-- Two comparisons tell it: what lies below the upper infinity is finite just where it lies above the lower (`below_infinity`), and
-- what does not lie below it, NaN included, is not finite (`not_below_infinity`).
use lib.Ieee.{nan_bits, is_nan, of_bits}
use Rattle.base_numbers.proofs.Finite.{below_infinity, not_below_infinity}
use Rattle.base_numbers.proofs.is_finite.Goals as goal

pub float_from_bits-infinity : goal.float_from_bits-infinity
unfolding nan_bits is_nan of_bits
float_from_bits-infinity c = tt

pub returns-then-x-infinity : goal.returns-then-x-infinity
returns-then-x-infinity c = below_infinity _ c.if-x-infinity.true

pub returns-else-x-infinity : goal.returns-else-x-infinity
returns-else-x-infinity c = not_below_infinity _ c.if-x-infinity.false
