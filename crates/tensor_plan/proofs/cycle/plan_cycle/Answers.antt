-- Steps, `DIVISORS`, `HELPERS` and z of a periodic axis stand in their rows as the rules have them, whatever the samples, and ratio
-- and rest are those of the rules: `cycle_plan_made` puts together what the four calls leave. Behind the plan the scratch is kept.
use native.Mathlib.Omega.{arith}
use mathlib.Core.Path.{◌∙◌}
use lib.ListN.{length-set}
use Rattle.tensor_plan.proofs.PlanOfCycle.{cycle_plan_made}
use Rattle.tensor_plan.proofs.cycle.plan_cycle.Goals as goal

pub second_forth-requires : goal.second_forth-requires
second_forth-requires c =
    let pre = c.requires in (
      record {
        room = simp length-set
            (omega (arith, c.divisors.ensures.same_length ∙ c.steps.ensures.same_length, pre));
        few = omega (arith, pre);
      },
      omega (arith, pre),
    )

pub bounds-w-l-5 : goal.bounds-w-l-5
bounds-w-l-5 c =
    let pre = c.requires in
    omega (
      arith,
      simp length-set at c.second_forth.ensures.same_length,
      c.divisors.ensures.same_length
          ∙ c.steps.ensures.same_length,
      pre,
    )

pub bounds-w-l-6 : goal.bounds-w-l-6
bounds-w-l-6 c =
    let pre = c.requires in
    omega (
      arith,
      simp length-set at c.second_forth.ensures.same_length,
      c.divisors.ensures.same_length
          ∙ c.steps.ensures.same_length,
      pre,
    )

pub bounds-w-l-7 : goal.bounds-w-l-7
bounds-w-l-7 c =
    let pre = c.requires in
    omega (
      arith,
      simp length-set at c.second_forth.ensures.same_length,
      c.divisors.ensures.same_length
          ∙ c.steps.ensures.same_length,
      pre,
    )

pub second_back-requires : goal.second_back-requires
second_back-requires c =
    let pre = c.requires in
    record {
      room = simp length-set
          (omega (
            arith,
            simp length-set at c.second_forth.ensures.same_length,
            c.divisors.ensures.same_length
                ∙ c.steps.ensures.same_length,
            pre,
          ));
      few = omega (arith, pre);
    }

pub bounds-w-384 : goal.bounds-w-384
bounds-w-384 c =
    let pre = c.requires in
    omega (
      arith,
      simp length-set at c.second_back.ensures.same_length,
      simp length-set at c.second_forth.ensures.same_length,
      c.divisors.ensures.same_length
          ∙ c.steps.ensures.same_length,
      pre,
    )

pub bounds-w-l-8 : goal.bounds-w-l-8
bounds-w-l-8 c =
    let pre = c.requires in
    omega (
      arith,
      simp length-set at c.second_back.ensures.same_length,
      simp length-set at c.second_forth.ensures.same_length,
      c.divisors.ensures.same_length
          ∙ c.steps.ensures.same_length,
      pre,
    )

pub shape_of-w : goal.shape_of-w
shape_of-w c = (c.second_back.ensures.same_length
    ∙ simp length-set
    (c.second_forth.ensures.same_length
    ∙ simp length-set (c.divisors.ensures.same_length ∙ c.steps.ensures.same_length)))

pub returns : goal.returns
returns c =
    let pre = c.requires in
    cycle_plan_made _ _ _ _ _ _ _ _ _ (pre) c.steps.ensures (c.steps.ensures.steps 0 (omega (arith, pre)))
    (c.steps.ensures.steps _ (omega (arith, pre))) (c.steps.ensures.steps _ (omega (arith, pre)))
    c.divisors.ensures c.second_forth.ensures c.second_back.ensures
