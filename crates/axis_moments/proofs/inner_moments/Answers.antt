-- The rows written are those of the rules, the first and last from the ends, so by `rows_solved` their solve gives the
-- moments of the knots that are not dropped, each at its knot's place.
use native.Mathlib.Omega.{arith}
use native.Mathlib.Nat.{sub-zero}
use borrow.Author.Rules.{rules}
use Rattle.rules.proofs.Ends.{dropped_most}
use Rattle.axis_moments.proofs.RowsOfBothEnds.{lower_drops, upper_drops, rows_solved}
use Rattle.axis_moments.proofs.inner_moments.Goals as goal

pub slice_bounds-lower_row-count : goal.slice_bounds-lower_row-count
slice_bounds-lower_row-count c = search rules

pub lower_row-first-requires : goal.lower_row-first-requires
lower_row-first-requires c = search rules

pub slice_bounds-upper_row-count : goal.slice_bounds-upper_row-count
slice_bounds-upper_row-count c = search rules

pub upper_row-last-requires : goal.upper_row-last-requires
upper_row-last-requires c = search rules

pub overflow_sub-l : goal.overflow_sub-l
overflow_sub-l c = search rules

pub overflow_sub-l-2 : goal.overflow_sub-l-2
overflow_sub-l-2 c = omega (arith, lower_drops _ _ _ _ c.lower_row-first.ensures)

pub overflow_sub-l-3 : goal.overflow_sub-l-3
overflow_sub-l-3 c =
    omega (
      arith,
      lower_drops _ _ _ _ c.lower_row-first.ensures,
      upper_drops _ _ _ _ c.upper_row-last.ensures,
    )

pub interior_rows-requires : goal.interior_rows-requires
interior_rows-requires c =
    let e = lower_drops _ _ _ _ c.lower_row-first.ensures in
    let f = upper_drops _ _ _ _ c.upper_row-last.ensures in
    (c.requires.0, omega arith, omega arith)

pub first_row-requires : goal.first_row-requires
first_row-requires c = search rules

pub last_row-requires : goal.last_row-requires
last_row-requires c = search rules

pub overflow_add-start : goal.overflow_add-start
overflow_add-start c = omega (arith, lower_drops _ _ _ _ c.lower_row-first.ensures, dropped_most c.args.lower)

pub thomas-requires : goal.thomas-requires
thomas-requires c =
    let e = lower_drops _ _ _ _ c.lower_row-first.ensures in
    let f = upper_drops _ _ _ _ c.upper_row-last.ensures in
    let g = dropped_most c.args.lower in
    let p = c.requires.0 in
    let q = c.requires.1 in (
      record {
        room =
            omega (
              arith,
              c.interior_rows.ensures.same_length,
              c.first_row.ensures.same_length,
              c.last_row.ensures.same_length,
            );
        fit = omega arith;
      },
      record { behind = omega arith; inside = omega arith },
    )

pub shape_of-w : goal.shape_of-w
shape_of-w c = search rules

pub returns : goal.returns
returns c =
    rows_solved _ _ _ _ _ _ _ _ _ _
    c.requires.0
    c.requires.1
    (rw sub-zero at c.lower_row-first.ensures)
    (rw sub-zero at c.upper_row-last.ensures)
    c.interior_rows.ensures
    c.first_row.ensures
    c.last_row.ensures
    c.thomas.ensures
