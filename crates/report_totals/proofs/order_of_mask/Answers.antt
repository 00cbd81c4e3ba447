-- A mask below 16 has at most 4 ones (`ones_le`), so its order is one of the five.
use mathlib.Core.Path.{refl}
use native.Mathlib.Omega.{arith}
use lib.Count.{ones-le}
use Rattle.report_totals.proofs.order_of_mask.Goals as goal

pub overflow_cast-result : goal.overflow_cast-result
overflow_cast-result c = omega (arith, ones-le 4 c.args.mask (omega arith))

pub returns : goal.returns
returns c = (refl, omega (arith, ones-le 4 c.args.mask (omega arith)))
