-- The plan of an axis under any condition.
use Rattle.std.specs.Prelude.{◌≡◌, List, ℕ, ◌+◌, ◌≤◌, length, Float}
use Rattle.rules.specs.Numbers.{at}
use Rattle.rules.specs.Ends.{dropped}
use Rattle.rules.specs.Sizes.{scratch_of_rows}
use Rattle.rules.specs.declared.Condition.{Condition}
use Rattle.rules.specs.declared.Condition.TheVariants.{Endpoints, Periodic}
use Rattle.grid_scratch.specs.Layout.{plan_row_length, plan_end}
use Rattle.tensor_plan.specs.PlanOfEnds.{EndsPlanned}
use Rattle.tensor_plan.specs.Cycle.{CyclePlanned}
use Rattle.tensor_plan.specs.declared.AxisPlan.{AxisPlan}
use Rattle.tensor_plan.specs.declared.AxisPlan.TheVariants.{Ends, Cycle}

-- the fewest points that are planned: on a periodic axis of one interval there is nothing to solve
abbrev pub fewest_planned : Condition → ℕ
fewest_planned (Endpoints lower upper) = 2 + dropped lower + dropped upper
fewest_planned Periodic = 3

-- what is asked for
pub record PlanGiven (w x : List Float) (condition : Condition) : Type 0 where
  pub room : scratch_of_rows ≤ length w
  pub few : length x ≤ plan_row_length
  pub enough : fewest_planned condition ≤ length x

-- the plan is the condition's, and stands in its rows
abbrev pub PlanStands : List Float → List Float → Condition → AxisPlan → Type 0
PlanStands w x (Endpoints lower upper) (Ends plan) = EndsPlanned w x lower upper plan
PlanStands w x (Endpoints lower upper) (Cycle plan) = ⊥
PlanStands w x Periodic (Ends plan) = ⊥
PlanStands w x Periodic (Cycle plan) = CyclePlanned w x plan.ratio plan.rest

-- and what there is then
pub record AxisPlanned (w w' x : List Float) (condition : Condition) (plan : AxisPlan) : Type 0 where
  pub same_length : length w' ≡ length w
  pub stands : PlanStands w' x condition plan
  pub kept : (j : ℕ) → plan_end ≤ j → at w' j ≡ at w j
