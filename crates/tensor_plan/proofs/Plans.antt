-- A plan serves the crossed condition of its axis too, and stands as long as its rows do; under any condition it is one of the two.
use native.Mathlib.Omega.{arith}
use mathlib.Core.Path.{◌≡◌, ap, ◌∙◌}
use mathlib.Core.List.{List}
use Prim.Native.Nat.{ℕ, ◌+◌, ◌<◌}
use lib.Ieee.{Float}
use Rattle.rules.specs.Numbers.{at}
use Rattle.rules.specs.Ends.{dropped, crossed}
use Rattle.rules.specs.declared.End.{End}
use Rattle.rules.specs.declared.Condition.{Condition}
use Rattle.rules.specs.declared.Condition.TheVariants.{Endpoints, Periodic}
use Rattle.grid_scratch.specs.Layout.{plan_end}
use Rattle.tensor_plan.specs.PlanOfEnds.{EndsGiven, EndsPlanMade}
use Rattle.tensor_plan.specs.Cycle.{CycleGiven, CyclePlanMade}
use Rattle.tensor_plan.specs.Plans.{fewest_planned, PlanGiven, PlanStands, AxisPlanned}
use Rattle.tensor_plan.specs.declared.EndsPlan.{EndsPlan}
use Rattle.tensor_plan.specs.declared.CyclePlan.{CyclePlan}
use Rattle.tensor_plan.specs.declared.AxisPlan.{AxisPlan}
use Rattle.tensor_plan.specs.declared.AxisPlan.TheVariants.{Ends, Cycle}
use Rattle.tensor_plan.proofs.PlanOfEnds.{plan_crossed}

module _ (w x : List Float) (condition : Condition) (lower upper : End) (e : condition ≡ Endpoints lower upper) where
  pub ends_given : PlanGiven w x condition → EndsGiven w x lower upper
  ends_given given = record { room = given.room; few = given.few; enough = omega (arith, given.enough, ap fewest_planned e) }

  pub ends_planned : (w' : List Float) (plan : EndsPlan) → EndsPlanMade w w' x lower upper plan → AxisPlanned w w' x condition (Ends plan)
  ends_planned w' plan made =
      rw e (record { same_length = made.same_length; stands = made.planned; kept = λ j ge. made.kept j (omega arith) })

module _ (w x : List Float) (condition : Condition) (e : condition ≡ Periodic) where
  pub cycle_given : PlanGiven w x condition → CycleGiven w x
  cycle_given given = record { room = given.room; few = given.few; enough = omega (arith, given.enough, ap fewest_planned e) }

  pub cycle_planned : (w' : List Float) (plan : CyclePlan) → CyclePlanMade w w' x plan → AxisPlanned w w' x condition (Cycle plan)
  cycle_planned w' plan made = rw e (record { same_length = made.same_length; stands = made.planned; kept = made.kept })

pub crossed_stands : (w x : List Float) (condition : Condition) (plan : AxisPlan) → PlanStands w x condition plan
    → PlanStands w x (crossed condition) plan
crossed_stands w x (Endpoints lower upper) (Ends plan) stands = plan_crossed w x lower upper plan stands
crossed_stands w x (Endpoints lower upper) (Cycle plan) stands = absurd stands
crossed_stands w x Periodic (Ends plan) stands = absurd stands
crossed_stands w x Periodic (Cycle plan) stands = stands

pub still_stands :
    (w w' x : List Float) (condition : Condition) (plan : AxisPlan) → PlanGiven w x condition → ((j : ℕ) → j < plan_end → at w' j ≡ at w j)
    → PlanStands w x condition plan → PlanStands w' x condition plan
still_stands w w' x (Endpoints lower upper) (Cycle plan) given same stands = absurd stands
still_stands w w' x Periodic (Ends plan) given same stands = absurd stands
still_stands w w' x (Endpoints lower upper) (Ends plan) given same stands = record {
  low_is = stands.low_is;
  last_is = stands.last_is;
  sub_is = stands.sub_is;
  steps = λ k less. same k (omega (arith, given.few)) ∙ stands.steps k less;
  divisors = λ y j le. same (128 + (dropped lower + j)) (omega (arith, given.few, given.enough)) ∙ stands.divisors y j le;
  helpers = λ y j less. same (256 + (dropped lower + j)) (omega (arith, given.few, given.enough)) ∙ stands.helpers y j less;
}
still_stands w w' x Periodic (Cycle plan) given same stands = record {
  steps = λ k less. same k (omega (arith, given.few)) ∙ stands.steps k less;
  divisors = λ y k le. same (128 + k) (omega (arith, given.few, given.enough)) ∙ stands.divisors y k le;
  helpers = λ y k less. same (256 + k) (omega (arith, given.few)) ∙ stands.helpers y k less;
  second = λ y k le. same (384 + k) (omega (arith, given.few, given.enough)) ∙ stands.second y k le;
  ratio_is = stands.ratio_is;
  rest_is = stands.rest_is;
}
