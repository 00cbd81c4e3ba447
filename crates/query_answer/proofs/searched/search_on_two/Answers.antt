-- What the turns of both axes find (`first_found`, `turn_next`) is all that there is to find; the parts that are lent are the knots of the
-- first axis and those of the second.
use native.Mathlib.Omega.{arith}
use mathlib.Core.Path.{◌∙◌}
use lib.ListN.{length-set}
use Rattle.query_answer.proofs.Finding.{turn_next, turn_last, four_cells, front_within, front_size, first_found, back_within, back_size}
use Rattle.query_answer.proofs.searched.search_on_two.Goals as goal

pub slice_bounds-place_on_axis-end : goal.slice_bounds-place_on_axis-end
slice_bounds-place_on_axis-end c = omega (arith, front_within c.args.way _ _ _ _ _ _ _ c.requires (omega arith))

pub place_on_axis-first_placed-requires : goal.place_on_axis-first_placed-requires
place_on_axis-first_placed-requires c = omega (arith, (front_size c.args.way _ _ _ _ _ _ _ c.requires (omega arith)).0)

pub slice_bounds-cell_on_axis-end : goal.slice_bounds-cell_on_axis-end
slice_bounds-cell_on_axis-end c = omega (arith, front_within c.args.way _ _ _ _ _ _ _ c.requires (omega arith))

pub cell_on_axis-first_cell-requires : goal.cell_on_axis-first_cell-requires
cell_on_axis-first_cell-requires c = front_size c.args.way _ _ _ _ _ _ _ c.requires (omega arith)

pub bounds-lower-0 : goal.bounds-lower-0
bounds-lower-0 c = omega (arith, four_cells c.args.way _ _ _ _ _ _ _ c.requires (omega arith))

pub slice_bounds-store_weights-end : goal.slice_bounds-store_weights-end
slice_bounds-store_weights-end c = omega (arith, front_within c.args.way _ _ _ _ _ _ _ c.requires (omega arith))

pub slice_bounds-knots_refused-end : goal.slice_bounds-knots_refused-end
slice_bounds-knots_refused-end c = omega (arith, front_within c.args.way _ _ _ _ _ _ _ c.requires (omega arith))

pub overflow_add-end : goal.overflow_add-end
overflow_add-end c = omega (arith, back_within _ _ _ _ c.requires.0)

pub offset_bounds-knots-begin : goal.offset_bounds-knots-begin
offset_bounds-knots-begin c = omega (arith, back_within _ _ _ _ c.requires.0)

pub slice_bounds-place_on_axis-end-2 : goal.slice_bounds-place_on_axis-end-2
slice_bounds-place_on_axis-end-2 c = omega (arith, back_within _ _ _ _ c.requires.0)

pub place_on_axis-second_placed-requires : goal.place_on_axis-second_placed-requires
place_on_axis-second_placed-requires c = omega (arith, (back_size _ _ _ _ c.requires.0).0)

pub offset_bounds-knots-begin-2 : goal.offset_bounds-knots-begin-2
offset_bounds-knots-begin-2 c = omega (arith, back_within _ _ _ _ c.requires.0)

pub slice_bounds-cell_on_axis-end-2 : goal.slice_bounds-cell_on_axis-end-2
slice_bounds-cell_on_axis-end-2 c = omega (arith, back_within _ _ _ _ c.requires.0)

pub cell_on_axis-second_cell-requires : goal.cell_on_axis-second_cell-requires
cell_on_axis-second_cell-requires c = back_size _ _ _ _ c.requires.0

pub bounds-lower-1 : goal.bounds-lower-1
bounds-lower-1 c = simp length-set (omega (arith, four_cells c.args.way _ _ _ _ _ _ _ c.requires (omega arith)))

pub offset_bounds-knots-begin-3 : goal.offset_bounds-knots-begin-3
offset_bounds-knots-begin-3 c = omega (arith, back_within _ _ _ _ c.requires.0)

pub slice_bounds-store_weights-end-2 : goal.slice_bounds-store_weights-end-2
slice_bounds-store_weights-end-2 c = omega (arith, back_within _ _ _ _ c.requires.0)

pub store_weights-requires-2 : goal.store_weights-requires-2
store_weights-requires-2 c = (
  omega arith,
  c.store_weights.ensures.same_length ∙ c.requires.1.sixteen,
  c.cell_on_axis-second_cell.ensures.inside,
)

pub offset_bounds-knots-begin-4 : goal.offset_bounds-knots-begin-4
offset_bounds-knots-begin-4 c = omega (arith, back_within _ _ _ _ c.requires.0)

pub slice_bounds-knots_refused-end-2 : goal.slice_bounds-knots_refused-end-2
slice_bounds-knots_refused-end-2 c = omega (arith, back_within _ _ _ _ c.requires.0)

pub shape_of-weights : goal.shape_of-weights
shape_of-weights c = c.store_weights-2.ensures.same_length ∙ c.store_weights.ensures.same_length

pub returns : goal.returns
returns c =
    turn_last _ _ _ _ _ _ _ _ _ _ _
    (turn_next _ _ _ _ _ _ _ _ _ _ _
    (first_found c.args.way _ _ _ _ _ _ _ c.requires (omega arith) _ c.place_on_axis-first_placed.ensures _
    c.cell_on_axis-first_cell.ensures _ c.store_weights.ensures _ _ c.is_finite-first_finite.ensures
    c.knots_refused-first_refused.ensures)
    (omega arith) _ c.place_on_axis-second_placed.ensures _ c.cell_on_axis-second_cell.ensures _
    c.store_weights-2.ensures _ _ c.is_finite-second_finite.ensures c.knots_refused-second_refused.ensures)
    (omega arith)
