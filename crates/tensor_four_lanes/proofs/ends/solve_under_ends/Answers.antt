-- Four lanes under two ends: their moments stand, so by `group_solved` what is stored are the knot slopes of their splines.
use native.Mathlib.Omega.{arith}
use Rattle.tensor_four_lanes.proofs.Groups.{still_lies, group_solved}
use Rattle.tensor_four_lanes.proofs.ends.solve_under_ends.Goals as goal

pub store_slopes-requires : goal.store_slopes-requires
store_slopes-requires c =
    let pre = c.requires in (
      still_lies _ _ _ _ _ _ _ c.endpoint_moments.ensures.same_length (omega arith) pre.slopes,
      omega (arith, pre.rows.axis.enough),
    )

pub returns : goal.returns
returns c =
    let pre = c.requires in
    group_solved _ _ _ _ _ _ _ _ (omega (arith, pre.rows.axis.enough)) pre.rows.axis.few pre.rows.planned.steps
    c.endpoint_moments.ensures c.store_slopes.ensures
