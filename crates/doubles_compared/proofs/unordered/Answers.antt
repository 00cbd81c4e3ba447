-- The patterns above infinity's are the NaNs: the first is one (`unordered_first`), or the second decides (`unordered_second`).
use mathlib.Core.Path.{◌∙◌}
use native.Mathlib.Omega.{arith}
use borrow.Author.Tests.{lt-ltb}
use Rattle.doubles_compared.proofs.Compared.{unordered_first, unordered_second}
use Rattle.doubles_compared.proofs.unordered.Goals as goal

pub returns-then-a-gt9218868437227405312 : goal.returns-then-a-gt9218868437227405312
returns-then-a-gt9218868437227405312 c = lt-ltb _ _ (omega arith) ∙ unordered_first c.args.a c.args.b (omega arith)

pub returns-else-a-gt9218868437227405312 : goal.returns-else-a-gt9218868437227405312
returns-else-a-gt9218868437227405312 c = unordered_second c.args.a c.args.b (omega arith)
