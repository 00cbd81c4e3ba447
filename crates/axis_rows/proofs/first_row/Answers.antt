-- Three stores at three places: the lower row's diagonal, neighbour and right side stand there, and all else as before.
use native.Mathlib.Omega.{arith}
use borrow.Author.Rules.{rules}
use lib.ListN.{length-set}
use Rattle.axis_rows.proofs.Stores.{at_none, at_first, at_second, at_third}
use Rattle.axis_rows.proofs.first_row.Goals as goal

pub bounds-w-512 : goal.bounds-w-512
bounds-w-512 c = search rules

pub bounds-w-768 : goal.bounds-w-768
bounds-w-768 c = simp length-set (omega arith)

pub bounds-w-1024 : goal.bounds-w-1024
bounds-w-1024 c = simp length-set (omega arith)

pub shape_of-w : goal.shape_of-w
shape_of-w c = search rules

pub returns : goal.returns
returns c =
    let w = c.args.w.now in
    let row = c.args.lower in
    record {
      same_length = simp length-set;
      diag = at_first w 512 768 1024 row.diagonal row.neighbour row.right (omega arith) (omega arith) (omega arith);
      sup = at_second w 512 768 1024 row.diagonal row.neighbour row.right (omega arith) (omega arith);
      rhs = at_third w 512 768 1024 row.diagonal row.neighbour row.right (omega arith);
      kept = at_none w 512 768 1024 row.diagonal row.neighbour row.right;
    }
