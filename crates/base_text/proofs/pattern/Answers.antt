-- A number that differs from itself is the one NaN, and its pattern is the quiet one (`quiet`); any other's is its bits (`no_nan`).
use Rattle.base_text.proofs.Patterns.{quiet, no_nan}
use Rattle.base_text.proofs.pattern.Goals as goal

pub float_to_bits-result : goal.float_to_bits-result
float_to_bits-result c = no_nan _ c.if-number.false

pub returns-then-number : goal.returns-then-number
returns-then-number c = quiet _ c.if-number.true
