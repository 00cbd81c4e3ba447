-- What making a plan leaves: the working tensor as it was, and the plan, if its axis goes by four.
use native.Mathlib.Omega.{arith}
use mathlib.Core.Path.{◌≡◌, refl, ap, ◌∙◌}
use mathlib.Core.List.{List}
use mathlib.Core.Bool.{Bool}
use Prim.Native.Nat.{ℕ, ◌+◌, ◌<◌, ◌≤◌}
use lib.ListN.{length}
use lib.Ieee.{Float}
use borrow.Author.Tests.{ltb-false}
use Rattle.std.specs.Prelude.{Option, Some, None}
use Rattle.rules.specs.Ends.{fewest_points}
use Rattle.rules.specs.Sizes.{scratch_of_rows, Grid, points, condition, knots, Place, moved, spot}
use Rattle.rules.specs.declared.End.{End}
use Rattle.rules.specs.declared.Condition.{Condition}
use Rattle.rules.specs.declared.Condition.TheVariants.{Endpoints, Periodic}
use Rattle.rules.proofs.Locality.{slope_along_ext}
use Rattle.grid_scratch.specs.Layout.{plan_row_length}
use Rattle.tensor_plan.specs.Plans.{fewest_planned, PlanGiven, AxisPlanned}
use Rattle.tensor_plan.specs.declared.AxisPlan.{AxisPlan}
use Rattle.tensor_passes.specs.Planned.{Planned, PlannedFor}
use Rattle.tensor_passes.specs.Passes.{working, PassGiven, AxisPassed}
use Rattle.tensor_passes.proofs.MaskTurns.{given_again}

-- an axis that goes by four is long enough for a plan, and not too long
pub ends_go :
    (ends : Condition) (lower upper : End) (n : ℕ) → ends ≡ Endpoints lower upper → n ≤ plan_row_length → fewest_points ends ≤ n
    → (n ≤ plan_row_length) × (fewest_planned ends ≤ n)
ends_go ends lower upper n e few enough = (few, omega (arith, ap fewest_points e, ap fewest_planned e))

pub cycle_goes : (ends : Condition) (n : ℕ) → ends ≡ Periodic → n ≤ plan_row_length → 2 < n
    → (n ≤ plan_row_length) × (fewest_planned ends ≤ n)
cycle_goes ends n e few more = (few, omega (arith, ap fewest_planned e))

pub plan_given :
    (w x : List Float) (ends : Condition) → scratch_of_rows ≤ length w → (length x ≤ plan_row_length) × (fewest_planned ends ≤ length x)
    → PlanGiven w x ends
plan_given w x ends room goes = record { room = room; few = goes.0; enough = goes.1 }

-- a plan as it is made
pub plan_made : (w w' x : List Float) (ends : Condition) (plan : AxisPlan) → PlanGiven w x ends → AxisPlanned w w' x ends plan
    → PlannedFor w w' x ends (Some plan)
plan_made w w' x ends plan given made = record {
  same_length = made.same_length;
  stands = record {
    axis = record { room = omega (arith, given.room, made.same_length); few = given.few; enough = given.enough };
    stands = made.stands;
  };
  kept = made.kept;
}

-- and where there is none
pub none_made : (w x : List Float) (ends : Condition) → PlannedFor w w x ends None
none_made w x ends = record { same_length = refl; stands = tt; kept = λ j ge. refl }

module _ (g : Grid) (place : Place) (i : ℕ) (w x : List Float) (given : PassGiven g w place i 0) (x_is : x ≡ knots g i)
    (knots_long : length (knots g i) ≡ points g i) where
  -- an axis of a grid that was not refused has points enough
  pub points_enough : (scratch_of_rows ≤ length w) × (fewest_points (condition g i) ≤ length x)
  points_enough =
      let enough = ltb-false (points g i) (fewest_points (condition g i)) (given.given.enough_points i given.in_use) in
      (omega (arith, given.given.room), omega (arith, enough, ap length x_is, knots_long))

  module _ (plan : Option AxisPlan) (w₁ : List Float) (made : PlannedFor w w₁ x (condition g i) plan) where
    pub masks_given : PassGiven g w₁ place i 0 × Planned g w₁ i plan
    masks_given = (
      record {
        given = given_again w₁ made.same_length given.given;
        on_the_grid = given.on_the_grid;
        in_use = given.in_use;
        low = given.low;
      },
      record { stands = rw x_is at made.stands },
    )

    -- the passes begin with the numbers that stood before the plan was made
    pub axis_passed : (w' : List Float) (whole : Bool) (limit : ℕ) → AxisPassed g w₁ w' whole place i limit
        → AxisPassed g w w' whole place i limit
    axis_passed w' whole limit passed = record {
      same_length = passed.same_length ∙ made.same_length;
      slopes = λ p mask on less solves.
          passed.slopes p mask on less solves
          ∙ slope_along_ext g i mask (λ q. working g w₁ q mask) (λ q. working g w q mask) p p refl
          (λ k below. made.kept (2048 + spot g (moved p i k) mask) (omega arith));
      kept = λ p m on small left. passed.kept p m on small left ∙ made.kept (2048 + spot g p m) (omega arith);
    }
