use native.Mathlib.Omega.{arith}
use Rattle.tensor_passes.proofs.AxisTurns.{turn_first, pass_given, count_fits, turn_next, turn_last}
use Rattle.tensor_passes.proofs.solve_axes.Goals as goal

pub loop-axis-init : goal.loop-axis-init
loop-axis-init c = let pre = c.requires in turn_first _ _ _ _ pre.0 pre.1

pub solve_along-lanes-requires : goal.solve_along-lanes-requires
solve_along-lanes-requires c = let turn = c.loop-axis.invariant in pass_given _ _ _ _ _ _ _ turn (omega arith)

pub overflow_add-lanes : goal.overflow_add-lanes
overflow_add-lanes c =
    let turn = c.loop-axis.invariant in
    omega (arith, count_fits _ _ _ _ _ _ _ turn _ _ (omega arith) c.solve_along-lanes.ensures)

pub loop-axis-preserved : goal.loop-axis-preserved
loop-axis-preserved c =
    let turn = c.loop-axis.invariant in
    turn_next _ _ _ _ _ _ _ turn _ _ (omega arith) c.solve_along-lanes.ensures

pub returns : goal.returns
returns c = turn_last _ _ _ _ _ _ _ c.loop-axis.invariant c.loop-axis-test.false
