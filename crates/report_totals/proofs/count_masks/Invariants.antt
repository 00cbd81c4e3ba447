-- `Counted` holds before each turn: `p` places are passed, and the counts are those of the two masks there.
use Rattle.report_totals.proofs.Counts.{Counted}
use Rattle.report_totals.proofs.count_masks.Given as goal

abbrev pub invariant-loop-p : goal.invariant-loop-p
invariant-loop-p l = Counted l.masks l.mask l.tensor l.nonzero l.largest l.next_nonzero l.next_largest l.p
