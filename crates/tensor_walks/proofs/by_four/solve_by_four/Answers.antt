use native.Mathlib.Omega.{arith}
use Rattle.tensor_walks.proofs.FourTurns.{turn_first, still_given, still_planned, turn_next, turn_last}
use Rattle.tensor_walks.proofs.by_four.solve_by_four.Goals as goal

pub first-cursor-requires : goal.first-cursor-requires
first-cursor-requires c = let pre = c.requires in (pre.0.some_inner, pre.0.some_middle)

pub loop-cursor-init : goal.loop-cursor-init
loop-cursor-init c = let pre = c.requires in turn_first _ _ _ _ _ _ _ _ pre.0 pre.1 c.first-cursor.ensures

pub solve_next_four-cursor-requires : goal.solve_next_four-cursor-requires
solve_next_four-cursor-requires c =
    let turn = c.loop-cursor.invariant in
    (still_given _ _ _ _ _ _ _ _ _ turn, still_planned _ _ _ _ _ _ _ _ _ turn, turn.stands c.loop-cursor-test.true, c.loop-cursor-test.true)

pub loop-cursor-smaller : goal.loop-cursor-smaller
loop-cursor-smaller c = omega (arith, c.loop-cursor-test.true, c.solve_next_four-cursor.ensures.some)

pub loop-cursor-preserved : goal.loop-cursor-preserved
loop-cursor-preserved c = turn_next _ _ _ _ _ _ _ _ _ c.loop-cursor.invariant _ _ c.solve_next_four-cursor.ensures

pub returns : goal.returns
returns c = turn_last _ _ _ _ _ _ _ _ _ c.loop-cursor.invariant c.loop-cursor-test.false
