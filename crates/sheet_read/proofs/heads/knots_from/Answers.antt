-- Two patterns at most stand before the knots (`values_most`), so no sum overflows.
use native.Mathlib.Omega.{arith}
use Rattle.sheet_read.proofs.HeadFields.{values_most}
use Rattle.sheet_read.proofs.heads.knots_from.Goals as goal

pub overflow_mul-result : goal.overflow_mul-result
overflow_mul-result c = omega (arith, values_most c.args.head)

pub overflow_add-result-3 : goal.overflow_add-result-3
overflow_add-result-3 c = let few = c.requires in omega (arith, values_most c.args.head)
