-- The measure is the number of axes that are left.
use Rattle.query_cell.proofs.+blend.Given as goal

abbrev pub decreases-blend : goal.decreases-blend
decreases-blend l = l.left
