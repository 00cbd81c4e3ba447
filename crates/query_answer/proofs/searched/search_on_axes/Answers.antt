use native.Mathlib.Omega.{arith}
use Rattle.query_answer.proofs.Finding.{turn_first, end_within, turn_next, turn_last}
use Rattle.query_answer.proofs.searched.search_on_axes.Goals as goal

pub loop-i-init : goal.loop-i-init
loop-i-init c = turn_first _ _ _ _ _ _ _ _ c.requires

pub overflow_add-end : goal.overflow_add-end
overflow_add-end c = omega (arith, end_within _ _ _ _ _ _ _ _ _ _ _ c.loop-i.invariant c.loop-i-test.true)

pub offset_bounds-knots-begin : goal.offset_bounds-knots-begin
offset_bounds-knots-begin c = omega (arith, end_within _ _ _ _ _ _ _ _ _ _ _ c.loop-i.invariant c.loop-i-test.true)

pub slice_bounds-place_on_axis-end : goal.slice_bounds-place_on_axis-end
slice_bounds-place_on_axis-end c = omega (arith, end_within _ _ _ _ _ _ _ _ _ _ _ c.loop-i.invariant c.loop-i-test.true)

pub slice_bounds-knots_refused-end : goal.slice_bounds-knots_refused-end
slice_bounds-knots_refused-end c = omega (arith, end_within _ _ _ _ _ _ _ _ _ _ _ c.loop-i.invariant c.loop-i-test.true)

pub loop-i-preserved : goal.loop-i-preserved
loop-i-preserved c =
    turn_next _ _ _ _ _ _ _ _ _ _ _ c.loop-i.invariant c.loop-i-test.true _ c.place_on_axis-placed.ensures _
    c.cell_on_axis-cell.ensures _ c.store_weights.ensures _ _ c.is_finite.ensures
    c.knots_refused-knots_refused.ensures

pub returns : goal.returns
returns c = turn_last _ _ _ _ _ _ _ _ _ _ _ c.loop-i.invariant (omega (arith, c.loop-i.auto.i-end, c.loop-i-test.false))
