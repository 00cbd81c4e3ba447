-- The first `k` slopes are stored `step` apart, and by `slope_kept` they leave the rows that the next is read from as they were.
use lib.ListN.{length}
use Rattle.tensor_lane.specs.LaneInScratch.{slope_of_rows}
use Rattle.tensor_lane.proofs.Storing.{Turn}
use Rattle.tensor_lane.proofs.store_slopes.Given as goal

abbrev pub invariant-loop-k : goal.invariant-loop-k
invariant-loop-k l = Turn l.initial.w l.w (slope_of_rows l.initial.w l.x) (length l.x) l.to l.step l.k
