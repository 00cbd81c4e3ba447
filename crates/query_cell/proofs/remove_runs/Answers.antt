use native.Mathlib.Omega.{arith}
use Rattle.query_cell.proofs.Removing.{room, run_given, turn_next}
use Rattle.query_cell.proofs.remove_runs.Goals as goal

pub slice_bounds-blend_run-end : goal.slice_bounds-blend_run-end
slice_bounds-blend_run-end c =
    let r = room _ _ _ _ _ _ _ _ c.loop-run.invariant c.loop-run-test.true in
    omega arith

pub blend_run-requires : goal.blend_run-requires
blend_run-requires c = run_given _ _ _ _ _ _ _ _ c.loop-run.invariant c.loop-run-test.true

pub loop-run-preserved : goal.loop-run-preserved
loop-run-preserved c = turn_next _ _ _ _ _ _ _ _ c.loop-run.invariant c.loop-run-test.true _ c.blend_run.ensures
