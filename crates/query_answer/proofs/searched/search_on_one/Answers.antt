-- What the turn of the first axis finds (`first_found`) is all that there is to find; the part that is lent is all of the knots.
use native.Mathlib.Omega.{arith}
use Rattle.query_answer.proofs.Finding.{turn_last, four_cells, front_within, front_size, first_found}
use Rattle.query_answer.proofs.searched.search_on_one.Goals as goal

pub slice_bounds-place_on_axis-end : goal.slice_bounds-place_on_axis-end
slice_bounds-place_on_axis-end c = omega (arith, front_within c.args.way _ _ _ _ _ _ _ c.requires (omega arith))

pub place_on_axis-placed-requires : goal.place_on_axis-placed-requires
place_on_axis-placed-requires c = omega (arith, (front_size c.args.way _ _ _ _ _ _ _ c.requires (omega arith)).0)

pub slice_bounds-cell_on_axis-end : goal.slice_bounds-cell_on_axis-end
slice_bounds-cell_on_axis-end c = omega (arith, front_within c.args.way _ _ _ _ _ _ _ c.requires (omega arith))

pub cell_on_axis-cell-requires : goal.cell_on_axis-cell-requires
cell_on_axis-cell-requires c = front_size c.args.way _ _ _ _ _ _ _ c.requires (omega arith)

pub bounds-lower-0 : goal.bounds-lower-0
bounds-lower-0 c = omega (arith, four_cells c.args.way _ _ _ _ _ _ _ c.requires (omega arith))

pub slice_bounds-store_weights-end : goal.slice_bounds-store_weights-end
slice_bounds-store_weights-end c = omega (arith, front_within c.args.way _ _ _ _ _ _ _ c.requires (omega arith))

pub slice_bounds-knots_refused-end : goal.slice_bounds-knots_refused-end
slice_bounds-knots_refused-end c = omega (arith, front_within c.args.way _ _ _ _ _ _ _ c.requires (omega arith))

pub returns : goal.returns
returns c =
    turn_last _ _ _ _ _ _ _ _ _ _ _
    (first_found c.args.way _ _ _ _ _ _ _ c.requires (omega arith) _ c.place_on_axis-placed.ensures _
    c.cell_on_axis-cell.ensures _ c.store_weights.ensures _ _ c.is_finite-finite.ensures
    c.knots_refused-knots_refused.ensures)
    (omega arith)
