-- An axis ends 64 bits a point behind the bit where its knots begin; of small places the sum fits.
use native.Mathlib.Omega.{arith}
use Rattle.sheet_read.proofs.HeadFields.{values_most}
use Rattle.sheet_read.proofs.heads.after.Goals as goal

pub overflow_add-result : goal.overflow_add-result
overflow_add-result c = let few = c.requires in omega (arith, values_most c.args.head)
