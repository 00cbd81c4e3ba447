-- One product with 2^-42 is the tolerance of the rules, since ten doublings of 2^-52 are that number: `tolerance_is`.
use Rattle.std.proofs.Common.{rules}
use Rattle.axis_even.proofs.Spacing.{tolerance_is}
use Rattle.axis_even.proofs.tolerance.Goals as goal

pub float_from_bits-result : goal.float_from_bits-result
unfolding lib.Ieee.nan_bits
float_from_bits-result c = search rules

pub returns : goal.returns
returns c = tolerance_is _ _ c.absolute.ensures
