-- The knot slopes of four periodic lanes go to their places, since `group_solved` makes them of the cyclic moments; the plan stays.
use native.Mathlib.Omega.{arith}
use Rattle.tensor_four_lanes.proofs.Groups.{still_lies, group_solved}
use Rattle.tensor_four_lanes.proofs.cycle.solve_periodic.Goals as goal

pub store_slopes-requires : goal.store_slopes-requires
store_slopes-requires c =
    let pre = c.requires in (
      still_lies _ _ _ _ _ _ _ c.cyclic_moments.ensures.same_length (omega arith) pre.1,
      omega (arith, pre.0.enough),
    )

pub returns : goal.returns
returns c =
    let pre = c.requires in
    group_solved _ _ _ _ _ _ _ _ (omega (arith, pre.0.enough)) pre.0.few pre.0.planned.steps
    c.cyclic_moments.ensures c.store_slopes.ensures
