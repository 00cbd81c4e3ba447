-- A kind has one pattern at most (`value_most`), so the sum over the two ends fits.
use native.Mathlib.Omega.{arith}
use Rattle.sheet_read.proofs.Extents.{value_most}
use Rattle.sheet_read.proofs.heads.values.Goals as goal

pub overflow_add-result : goal.overflow_add-result
overflow_add-result c = let head = c.args.head in omega (arith, value_most head.lower, value_most head.upper)
