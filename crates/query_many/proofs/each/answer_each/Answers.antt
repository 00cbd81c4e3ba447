use native.Mathlib.Omega.{arith}
use mathlib.Core.Path.{refl, sym, ◌∙◌}
use Rattle.many_points.proofs.Turns.{turn_first, end_within, part_fits, room, turn_next, turn_last}
use Rattle.query_many.proofs.each.answer_each.Goals as goal

pub loop-j-init : goal.loop-j-init
loop-j-init c = turn_first _ _ _ _ _ _ _ _ refl c.requires

pub overflow_add-end : goal.overflow_add-end
overflow_add-end c = omega (arith, end_within _ _ _ _ _ _ _ _ _ _ c.loop-j.invariant c.loop-j-test.true)

pub offset_bounds-coordinates-begin : goal.offset_bounds-coordinates-begin
offset_bounds-coordinates-begin c = omega (arith, end_within _ _ _ _ _ _ _ _ _ _ c.loop-j.invariant c.loop-j-test.true)

pub slice_bounds-answer-end : goal.slice_bounds-answer-end
slice_bounds-answer-end c = omega (arith, end_within _ _ _ _ _ _ _ _ _ _ c.loop-j.invariant c.loop-j-test.true)

pub answer-given-requires : goal.answer-given-requires
answer-given-requires c = part_fits _ _ _ _ _ _ _ _ _ _ c.loop-j.invariant c.loop-j-test.true

pub store_answer-requires : goal.store_answer-requires
store_answer-requires c = room _ _ _ _ _ _ _ _ _ _ c.loop-j.invariant c.loop-j-test.true

pub loop-j-preserved : goal.loop-j-preserved
loop-j-preserved c =
    turn_next _ _ _ _ _ _ _ _ _ _ c.loop-j.invariant c.loop-j-test.true _ c.answer-given.ensures
    _ _ _ c.store_answer.ensures

pub shape_of-values : goal.shape_of-values
shape_of-values c = c.loop-j.invariant.stand.values_count ∙ sym c.requires.values_exact

pub shape_of-labels : goal.shape_of-labels
shape_of-labels c = c.loop-j.invariant.stand.labels_count ∙ sym c.requires.labels_exact

pub shape_of-refusals : goal.shape_of-refusals
shape_of-refusals c = c.loop-j.invariant.stand.refusals_count

pub returns : goal.returns
returns c = turn_last _ _ _ _ _ _ _ _ _ _ c.loop-j.invariant c.loop-j-test.false
