-- Refusal 2 of one axis as two comparisons: fewer than 2 points, and where that fails more than 256.
use borrow.Author.Tests.{lt-ltb, le-ltb}
use Rattle.grid_checks.proofs.sizes.points_refused.Goals as goal

pub returns-then-points-lt2 : goal.returns-then-points-lt2
returns-then-points-lt2 c = simp (lt-ltb _ _ c.if-points-lt2.true)

pub returns-else-points-lt2 : goal.returns-else-points-lt2
returns-else-points-lt2 c = simp (le-ltb _ _ c.if-points-lt2.false)
