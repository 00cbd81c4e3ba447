-- One lane gathered, its moments computed and its knot slopes stored: by `lane_solved` they are those of its spline, and behind the
-- rows of the scratch no place changes but theirs.
use mathlib.Core.Path.{◌∙◌}
use Rattle.tensor_lane.proofs.Lane.{still_lies, lane_solved}
use Rattle.tensor_lane.proofs.solve_lane.Goals as goal

pub store_slopes-requires : goal.store_slopes-requires
store_slopes-requires c =
    let pre = c.requires in (
      still_lies _ (c.compute_m.ensures.same_length ∙ c.gather.ensures.same_length) pre.slopes,
      pre.apart,
      pre.some_points,
      pre.few_points,
    )

pub returns : goal.returns
returns c =
    let pre = c.requires in
    lane_solved _ _ _ _ _ _ _ _ _ pre c.gather.ensures c.compute_m.ensures c.store_slopes.ensures
