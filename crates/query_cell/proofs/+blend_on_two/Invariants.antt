-- The measure is the number of axes that are left.
use Rattle.query_cell.proofs.+blend_on_two.Given as goal

abbrev pub decreases-blend_on_two : goal.decreases-blend_on_two
decreases-blend_on_two l = l.left
