-- The knot slope of the rules, from the first numbers of the samples' row and of the moments' row, as many as the knots.
use native.Mathlib.Nat.{sub-zero, add-sub_cancel_left}
use Rattle.tensor_lane.proofs.slope.Goals as goal

pub returns : goal.returns
returns c = rw (sub-zero, add-sub_cancel_left) at c.knot_slope.ensures
