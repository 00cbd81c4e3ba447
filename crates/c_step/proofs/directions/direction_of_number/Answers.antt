-- 0 is Lower, and every other number is Upper (`upper_of`).
use Rattle.c_step.proofs.Exported.{upper_of}
use Rattle.c_step.proofs.directions.direction_of_number.Goals as goal

pub returns-else-number-eq0 : goal.returns-else-number-eq0
returns-else-number-eq0 c = upper_of _ c.if-number-eq0.false
