-- The plan under two ends is that of the rules for any samples: by `plan_made` the ends' rows, asked for with knots as samples, have
-- the diagonals and neighbours of any others. From the row `SECOND` on the scratch is kept.
use native.Mathlib.Omega.{arith}
use lib.ListN.{length-set}
use mathlib.Core.Path.{ap, ◌∙◌}
use Rattle.axis_rows.specs.declared.EndRow.{EndRow}
use Rattle.tensor_plan.proofs.PlanOfEnds.{plan_made}
use Rattle.tensor_plan.proofs.ends.plan_ends.Goals as goal

pub overflow_sub-last-2 : goal.overflow_sub-last-2
overflow_sub-last-2 c = omega (arith, ap (λ (r : EndRow). r.dropped) c.upper_row-end.ensures)

pub divisors-requires : goal.divisors-requires
divisors-requires c =
    let e = ap (λ (r : EndRow). r.dropped) c.lower_row-first.ensures in
    let f = ap (λ (r : EndRow). r.dropped) c.upper_row-end.ensures in
    (record { room = omega (arith, c.steps.ensures.same_length); few = omega arith }, omega arith)

pub overflow_sub-w : goal.overflow_sub-w
overflow_sub-w c = omega (arith, ap (λ (r : EndRow). r.dropped) c.upper_row-end.ensures)

pub shape_of-w : goal.shape_of-w
shape_of-w c = simp length-set (c.divisors.ensures.same_length ∙ c.steps.ensures.same_length)

pub returns : goal.returns
returns c =
    let pre = c.requires in
    plan_made _ _ _ _ _ _ _ _ (pre) c.steps.ensures c.lower_row-first.ensures c.upper_row-end.ensures
    c.divisors.ensures
