-- A finite sum, a sum with an infinity, or NaN where the larger magnitude is one (`sum_of_nan`).
use mathlib.Core.Path.{refl}
use native.Mathlib.Omega.{arith}
use Rattle.doubles_sum.proofs.Sums.{sum_of_nan}
use Rattle.doubles_sum.proofs.larger_first.Goals as goal

pub returns-else-p-eq9218868437227405312 : goal.returns-else-p-eq9218868437227405312
returns-else-p-eq9218868437227405312 c = sum_of_nan _ _ _ (omega arith) refl
