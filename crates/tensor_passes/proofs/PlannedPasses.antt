-- The plan of an axis serves the passes of all its masks, one after the other.
use native.Mathlib.Omega.{arith}
use mathlib.Core.Path.{◌≡◌, refl}
use mathlib.Core.List.{List}
use Prim.Native.Nat.{ℕ, zero, suc}
use lib.ListN.{length}
use lib.Ieee.{Float}
use Rattle.std.specs.Prelude.{Option, Some, None, IfSome, OnSome}
use Rattle.rules.specs.Ends.{condition_at, crossed}
use Rattle.rules.specs.Sizes.{Grid, condition, knots}
use Rattle.rules.specs.declared.Condition.{Condition}
use Rattle.rules.specs.declared.Condition.TheVariants.{Endpoints, Periodic}
use Rattle.tensor_plan.specs.Plans.{fewest_planned}
use Rattle.tensor_plan.specs.declared.AxisPlan.{AxisPlan}
use Rattle.tensor_plan.proofs.EndRows.{same_dropped}
use Rattle.tensor_plan.proofs.Plans.{crossed_stands, still_stands}
use Rattle.tensor_walks.specs.ByFour.{AxisStands, PlanKept}
use Rattle.tensor_passes.specs.Planned.{Planned}

fewest_crossed : (ends : Condition) → fewest_planned ends ≡ fewest_planned (crossed ends)
fewest_crossed (Endpoints lower upper) =
    let a = same_dropped lower in
    let b = same_dropped upper in
    omega (arith, same_dropped lower, same_dropped upper)
fewest_crossed Periodic = refl

stands_at_mask :
    (w x : List Float) (ends : Condition) (plan : AxisPlan) (mask : ℕ) → AxisStands w x ends plan
    → AxisStands w x (condition_at mask ends) plan
stands_at_mask w x ends plan zero s = s
stands_at_mask w x ends plan (suc mask) s = record {
  axis = record { room = s.axis.room; few = s.axis.few; enough = omega (arith, s.axis.enough, fewest_crossed ends) };
  stands = crossed_stands w x ends plan s.stands;
}

-- a pass of the numbers at a mask, with knots and ends as the code has them
pub pass_stands :
    (g : Grid) (i : ℕ) (plan : Option AxisPlan) (w x : List Float) (mask : ℕ) (ends : Condition) → x ≡ knots g i
    → ends ≡ condition_at mask (condition g i)
    → Planned g w i plan → IfSome plan (AxisStands w x ends)
pass_stands g i None w x mask ends x_is ends_are planned = tt
pass_stands g i (Some plan) w x mask ends x_is ends_are planned =
    rw (x_is, ends_are) (stands_at_mask w (knots g i) (condition g i) plan mask planned.stands)

-- and the next pass finds it again
pub planned_again :
    (g : Grid) (i : ℕ) (plan : Option AxisPlan) (w w' : List Float) → length w' ≡ length w → OnSome plan (PlanKept w w')
    → Planned g w i plan
    → Planned g w' i plan
planned_again g i None w w' long kept planned = record { stands = tt }
planned_again g i (Some plan) w w' long kept planned =
    let s = planned.stands in
    record {
      stands = record {
        axis = record { room = omega (arith, s.axis.room); few = s.axis.few; enough = s.axis.enough };
        stands = still_stands w w' (knots g i) (condition g i) plan s.axis kept s.stands;
      };
    }
