-- A plan that is made stands in its rows (`plan_made`), and where there is none nothing is stored (`none_made`); the working tensor
-- stays as it was.
use Rattle.tensor_passes.proofs.PlannedAxis.{plan_given, plan_made, none_made}
use Rattle.tensor_passes.proofs.plan_for.Goals as goal

pub plan_axis-requires : goal.plan_axis-requires
plan_axis-requires c =
    let pre = c.requires in
    plan_given _ _ _ pre.0 (c.goes_by_four.ensures c.if-goes_by_four.true pre.1)

pub returns-then-goes_by_four : goal.returns-then-goes_by_four
returns-then-goes_by_four c =
    let pre = c.requires in
    plan_made _ _ _ _ _ (plan_given _ _ _ pre.0 (c.goes_by_four.ensures c.if-goes_by_four.true pre.1)) c.plan_axis.ensures

pub returns-else-goes_by_four : goal.returns-else-goes_by_four
returns-else-goes_by_four c = none_made _ _ _
