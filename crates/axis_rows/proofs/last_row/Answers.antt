-- The upper row's three numbers stand in row `l`, its neighbour one place before in sub, and no other number has changed.
use native.Mathlib.Omega.{arith}
use Prim.Native.Nat.{◌+◌}
use borrow.Author.Rules.{rules}
use lib.ListN.{length-set}
use Rattle.axis_rows.proofs.Stores.{at_none, at_first, at_second, at_third}
use Rattle.axis_rows.proofs.last_row.Goals as goal

pub overflow_add-w : goal.overflow_add-w
overflow_add-w c = search rules

pub offset_bounds-w-l : goal.offset_bounds-w-l
offset_bounds-w-l c = search rules

pub bounds-w-l : goal.bounds-w-l
bounds-w-l c = search rules

pub overflow_add-w-2 : goal.overflow_add-w-2
overflow_add-w-2 c = search rules

pub offset_bounds-w-l-2 : goal.offset_bounds-w-l-2
offset_bounds-w-l-2 c = search rules

pub bounds-w-l-2 : goal.bounds-w-l-2
bounds-w-l-2 c = simp length-set (omega arith)

pub overflow_add-w-3 : goal.overflow_add-w-3
overflow_add-w-3 c = search rules

pub offset_bounds-w-l-3 : goal.offset_bounds-w-l-3
offset_bounds-w-l-3 c = search rules

pub bounds-w-l-3 : goal.bounds-w-l-3
bounds-w-l-3 c = simp length-set (omega arith)

pub shape_of-w : goal.shape_of-w
shape_of-w c = search rules

pub returns : goal.returns
returns c =
    let w = c.args.w.now in
    let l = c.args.l in
    let row = c.args.upper in
    record {
      same_length = simp length-set;
      sub =
          at_first w (255 + l) (512 + l) (1024 + l) row.neighbour row.diagonal row.right (omega arith) (omega arith) (omega arith);
      diag = at_second w (255 + l) (512 + l) (1024 + l) row.neighbour row.diagonal row.right (omega arith) (omega arith);
      rhs = at_third w (255 + l) (512 + l) (1024 + l) row.neighbour row.diagonal row.right (omega arith);
      kept = at_none w (255 + l) (512 + l) (1024 + l) row.neighbour row.diagonal row.right;
    }
