use Rattle.tensor_four_lanes.proofs.BackTurns.{turn_first, turn_next, turn_last}
use Rattle.tensor_four_lanes.proofs.sweeps.back.Goals as goal

pub loop-k-init : goal.loop-k-init
loop-k-init c = turn_first _ _ _ _ c.requires.0 c.requires.1 c.get_row-m.ensures

pub loop-k-preserved : goal.loop-k-preserved
loop-k-preserved c =
    turn_next _ _ _ _ _ _ _ c.loop-k.invariant c.loop-k-test.true _ _ _ c.get_row.ensures c.times.ensures
    c.minus-m.ensures c.set_row.ensures

pub returns : goal.returns
returns c = turn_last _ _ _ _ _ _ c.loop-k.invariant c.loop-k-test.false
