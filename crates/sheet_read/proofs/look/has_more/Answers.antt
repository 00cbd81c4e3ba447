-- Where a whole byte fits behind `at`, 8 bits or more are left (`many_left`); of fewer bits one is set just where their field is not 0
-- (`few_left`). Either way it is the test of refusal 14.
use native.Mathlib.Omega.{arith}
use mathlib.Core.Path.{◌∙◌}
use borrow.Author.Tests.{le-leb}
use Rattle.sheet_read.proofs.Samples.{many_left, few_left}
use Rattle.sheet_read.proofs.look.has_more.Goals as goal

pub returns-then-at-bytes : goal.returns-then-at-bytes
returns-then-at-bytes c = le-leb _ _ (omega arith) ∙ many_left _ _ (omega arith)

pub returns-else-at-bytes : goal.returns-else-at-bytes
returns-else-at-bytes c = few_left _ _ (omega arith) _ c.field_at.ensures
