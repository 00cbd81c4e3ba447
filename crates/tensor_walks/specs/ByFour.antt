-- The lanes of a walk by four: the plan of their axis stands and is still there behind them, and each lane is counted once it is passed.
use Rattle.std.specs.Prelude.{◌≡◌, List, ℕ, ◌+◌, ◌<◌, ◌≤◌, Float}
use Rattle.rules.specs.Numbers.{at}
use Rattle.rules.specs.declared.Condition.{Condition}
use Rattle.grid_scratch.specs.Layout.{plan_end}
use Rattle.tensor_plan.specs.Plans.{PlanGiven, PlanStands}
use Rattle.tensor_plan.specs.declared.AxisPlan.{AxisPlan}
use Rattle.tensor_starts.specs.Walks.{lane_start, Stands}
use Rattle.tensor_starts.specs.declared.Walk.{Walk}
use Rattle.tensor_starts.specs.declared.Cursor.{Cursor}
use Rattle.tensor_walks.specs.Walked.{SomeSolved}

-- an axis with its plan
pub record AxisStands (w x : List Float) (condition : Condition) (plan : AxisPlan) : Type 0 where
  pub axis : PlanGiven w x condition
  pub stands : PlanStands w x condition plan

-- the rows of a plan are kept
abbrev pub PlanKept : List Float → List Float → Type 0
PlanKept w w' = (j : ℕ) → j < plan_end → at w' j ≡ at w j

-- a cursor that counts the lanes it has passed: it stands at the next or, behind the last, still at the place of that one
pub record Walking (c : Cursor) (walk : Walk) : Type 0 where
  pub number : ℕ
  pub below : number < walk.lanes
  pub at_is : c.at ≡ lane_start walk number
  pub most : c.lane ≤ walk.lanes
  pub not_far : c.lane ≤ number + 1
  pub standing : c.lane < walk.lanes → Stands c walk × (number ≡ c.lane)

-- c moved on to r: behind one lane more, if one was left
pub record Onward (c r : Cursor) (walk : Walk) : Type 0 where
  pub walking : Walking r walk
  pub not_before : c.lane ≤ r.lane
  pub not_far : r.lane ≤ c.lane + 1
  pub counted : c.lane < walk.lanes → r.lane ≡ c.lane + 1

-- the lanes from c's up to r's solved, one at least, and r behind them
pub record FourSolved (w w' x : List Float) (condition : Condition) (walk : Walk) (to step : ℕ) (c r : Cursor) : Type 0 where
  pub solved : SomeSolved w w' x condition walk to step c.lane r.lane
  pub plan : PlanKept w w'
  pub some : c.lane < r.lane
  pub most : r.lane ≤ walk.lanes
  pub stands : r.lane < walk.lanes → Stands r walk
