-- The walk over a sheet's axes: those below `i` are read and none of them has a fault. A head that is not there whole has one; of one that
-- is, all that follows is worked out.
use Rattle.sheet_read.proofs.Walks.{Turn}
use Rattle.sheet_read.proofs.axes.walk_axes.Given as goal

abbrev pub invariant-loop-i : goal.invariant-loop-i
invariant-loop-i l = Turn l.bytes l.axes l.all l.at l.i
