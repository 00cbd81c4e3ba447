-- The plan that stands is the condition's: `ends_planned` under two ends, `cycle_planned` on a periodic axis, and nothing behind the
-- plan's rows is touched.
use Rattle.tensor_plan.proofs.Plans.{ends_given, ends_planned, cycle_given, cycle_planned}
use Rattle.tensor_plan.proofs.plan_axis.Goals as goal

pub plan_ends-requires : goal.plan_ends-requires
plan_ends-requires c =
    let pre = c.requires in
    ends_given _ _ _ _ _ c.in-Endpoints.is pre

pub plan_cycle-requires : goal.plan_cycle-requires
plan_cycle-requires c =
    let pre = c.requires in
    cycle_given _ _ _ c.in-Periodic.is pre

pub returns-in-Endpoints : goal.returns-in-Endpoints
returns-in-Endpoints c = ends_planned _ _ _ _ _ c.in-Endpoints.is _ _ c.plan_ends.ensures

pub returns-in-Periodic : goal.returns-in-Periodic
returns-in-Periodic c = cycle_planned _ _ _ c.in-Periodic.is _ _ c.plan_cycle.ensures
