-- Each flag says whether the column of its number is out of range in a cell below `4 * i`.
use Rattle.device_cursor.proofs.Columns.{Kept}
use Rattle.device_cursor.proofs.some_of_fours_refused.Given as goal

abbrev pub invariant-loop-i : goal.invariant-loop-i
invariant-loop-i l = Kept l.curve l.i l.p0 l.p1 l.d0 l.d1
