-- A pattern above the infinity's, its sign dropped, gives the one NaN (`nan_pattern`); any other is no NaN's (`other_pattern`) and is
-- read as it stands.
use Rattle.base_numbers.proofs.Finite.{nan_pattern, other_pattern}
use Rattle.base_numbers.proofs.float_of.Goals as goal

pub float_from_bits-result : goal.float_from_bits-result
float_from_bits-result c = other_pattern _ c.if-pattern-gt9218868437227405312.false

pub returns-then-pattern-gt9218868437227405312 : goal.returns-then-pattern-gt9218868437227405312
returns-then-pattern-gt9218868437227405312 c = nan_pattern _ c.if-pattern-gt9218868437227405312.true
