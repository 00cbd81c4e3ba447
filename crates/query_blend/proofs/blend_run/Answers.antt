use Rattle.query_blend.proofs.Running.{turn_next}
use Rattle.query_blend.proofs.blend_run.Goals as goal

pub loop-k-preserved : goal.loop-k-preserved
loop-k-preserved c = rw c.store_four.ensures (turn_next _ _ _ _ _ _ _ c.loop-k.invariant c.loop-k-test.true _ c.four_blended-four.ensures)
