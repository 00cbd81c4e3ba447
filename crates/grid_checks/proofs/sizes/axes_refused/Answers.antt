-- Refusal 1 as two comparisons: below one axis, and where that fails above four.
use borrow.Author.Tests.{lt-ltb, le-ltb}
use Rattle.grid_checks.proofs.sizes.axes_refused.Goals as goal

pub returns-then-axes-lt1 : goal.returns-then-axes-lt1
returns-then-axes-lt1 c = simp (lt-ltb _ _ c.if-axes-lt1.true)

pub returns-else-axes-lt1 : goal.returns-else-axes-lt1
returns-else-axes-lt1 c = simp (le-ltb _ _ c.if-axes-lt1.false)
