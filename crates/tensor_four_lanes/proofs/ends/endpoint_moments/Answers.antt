-- With the two outermost moments put at knots 0 and `n`, all moments of each lane are those under its two ends: `moments_solved`.
use Rattle.tensor_four_lanes.proofs.EndpointMoments.{moments_solved}
use Rattle.tensor_four_lanes.proofs.ends.endpoint_moments.Goals as goal

pub returns : goal.returns
returns c =
    let pre = c.requires in
    moments_solved _ _ _ _ _ _ _ _ _ _ (pre) c.inner_moments.ensures _ _ c.lower_moment-first.ensures
    c.set_row.ensures c.upper_moment-last.ensures c.set_row-2.ensures
