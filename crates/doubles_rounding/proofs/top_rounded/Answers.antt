-- A number with its highest digit in the second place, or of exponent 0, is moved up by one place (`shifted_one`), one with it in the top
-- place by none (`shifted_none`).
use mathlib.Core.Path.{◌∙◌}
use native.Mathlib.Omega.{arith}
use Rattle.doubles_rounding.proofs.Shifts.{packed_none, packed_one, shifted_none, shifted_one}
use Rattle.doubles_rounding.proofs.top_rounded.Goals as goal

pub returns-then-s-lt9223372036854775808 : goal.returns-then-s-lt9223372036854775808
returns-then-s-lt9223372036854775808 c = (c.packed.ensures.0 ∙ packed_one _ _ (shifted_one _ _ (omega arith) c.requires.0), c.packed.ensures.1)

pub returns-else-s-lt9223372036854775808 : goal.returns-else-s-lt9223372036854775808
returns-else-s-lt9223372036854775808 c = (c.packed-else-s-lt9223372036854775808.ensures.0 ∙ packed_none _ _ (shifted_none _ _ (omega arith) (omega arith)), c.packed-else-s-lt9223372036854775808.ensures.1)
