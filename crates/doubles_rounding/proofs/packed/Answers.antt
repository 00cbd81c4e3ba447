-- The smaller of infinity's pattern and the sum of exponent and digits is the pattern, capped (`packed_least`).
use borrow.Author.Rules.{rules}
use Rattle.doubles_rounding.proofs.Shifts.{packed_least}
use Rattle.doubles_rounding.proofs.packed.Goals as goal

pub returns : goal.returns
returns c = packed_least _ _ _ c.eleven_off.ensures.0 _ (search rules)
