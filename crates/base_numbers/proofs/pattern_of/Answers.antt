-- A finite number is no NaN, which is all that taking its pattern asks for.
use Rattle.base_numbers.proofs.Finite.{finite_not_nan}
use Rattle.base_numbers.proofs.pattern_of.Goals as goal

pub float_to_bits-result : goal.float_to_bits-result
float_to_bits-result c = finite_not_nan _ c.requires
