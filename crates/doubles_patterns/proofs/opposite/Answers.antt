-- A plus is made a minus (`opposite_up`), and a minus a plus (`opposite_down`); the other places stay as they are.
use native.Mathlib.Omega.{arith}
use Rattle.doubles_patterns.proofs.Signs.{opposite_up, opposite_down}
use Rattle.doubles_patterns.proofs.opposite.Goals as goal

pub returns-then-b-lt9223372036854775808 : goal.returns-then-b-lt9223372036854775808
returns-then-b-lt9223372036854775808 c = opposite_up _ (omega arith)

pub returns-else-b-lt9223372036854775808 : goal.returns-else-b-lt9223372036854775808
returns-else-b-lt9223372036854775808 c = opposite_down _ (omega arith) (omega arith)
