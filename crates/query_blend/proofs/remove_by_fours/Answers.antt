use Rattle.query_blend.proofs.Removal.{turn_next}
use Rattle.query_blend.proofs.remove_by_fours.Goals as goal

pub loop-k-preserved : goal.loop-k-preserved
loop-k-preserved c = rw c.store_four.ensures (turn_next _ _ _ _ _ c.loop-k.invariant c.loop-k-test.true _ c.four_blended-four.ensures)
