-- A pass by the plan of its axis.
use Rattle.std.specs.Prelude.{◌≡◌, List, ℕ, ◌≤◌, length, Float, Option, IfSome}
use Rattle.rules.specs.Numbers.{at}
use Rattle.rules.specs.Sizes.{Grid, condition, knots}
use Rattle.rules.specs.declared.Condition.{Condition}
use Rattle.grid_scratch.specs.Layout.{plan_end}
use Rattle.tensor_plan.specs.declared.AxisPlan.{AxisPlan}
use Rattle.tensor_walks.specs.ByFour.{AxisStands}

-- a plan of axis i, if there is one, stands under the axis's own condition
pub record Planned (g : Grid) (w : List Float) (i : ℕ) (plan : Option AxisPlan) : Type 0 where
  pub stands : IfSome plan (AxisStands w (knots g i) (condition g i))

-- a plan made, or none; nothing is stored but in the rows of a plan
pub record PlannedFor (w w' x : List Float) (ends : Condition) (plan : Option AxisPlan) : Type 0 where
  pub same_length : length w' ≡ length w
  pub stands : IfSome plan (AxisStands w' x ends)
  pub kept : (j : ℕ) → plan_end ≤ j → at w' j ≡ at w j
