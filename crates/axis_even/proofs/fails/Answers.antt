-- The larger of two steps less the smaller is held against the tolerance, whichever of the two is the larger.
use Rattle.std.proofs.Common.{ap}
use lib.Ieee.{lt}
use Rattle.axis_even.proofs.Spacing.{apart_wider, apart_narrower}
use Rattle.axis_even.proofs.fails.Goals as goal

pub returns-then-spacing-step : goal.returns-then-spacing-step
returns-then-spacing-step c = ap (lt _) (apart_wider _ _ c.if-spacing-step.true)

pub returns-else-spacing-step : goal.returns-else-spacing-step
returns-else-spacing-step c = ap (lt _) (apart_narrower _ _ c.if-spacing-step.false)
