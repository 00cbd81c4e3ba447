-- Where all axes are left the tensor's numbers are removed, and else the cell's.
use native.Mathlib.Omega.{arith}
use Rattle.query_cell.proofs.Removing.{in_place, removed_only, removed_first, removed_further}
use Rattle.query_cell.proofs.remove_lowest.Goals as goal

pub remove_first-requires : goal.remove_first-requires
remove_first-requires c = (rw c.if-axes-eq1.true at c.requires.0, c.requires.1, λ two. omega arith)

pub returns-then-axes-eq1 : goal.returns-then-axes-eq1
returns-then-axes-eq1 c =
    removed_only _ _ _ _ c.args.tensor.now _ c.args.cell.now _
    c.if-axes-eq1.true
    c.requires.2.0
    c.requires.2.1
    c.remove_first.ensures

pub returns-then-left-axes : goal.returns-then-left-axes
returns-then-left-axes c =
    removed_first _ _ _ _ c.args.tensor.now _ c.args.cell.now _
    c.if-left-axes.true
    c.remove_first-then-left-axes.ensures

pub overflow_mul-half : goal.overflow_mul-half
overflow_mul-half c =
    let other = c.if-left-axes.false in
    let room = in_place _ _ _ c.requires.2.0 c.requires.2.1 c.requires.0.0.few_axes other c.masks-half.ensures.0 in
    omega (arith, room.0)

pub remove_lowest-requires : goal.remove_lowest-requires
remove_lowest-requires c =
    let other = c.if-left-axes.false in
    let room = in_place _ _ _ c.requires.2.0 c.requires.2.1 c.requires.0.0.few_axes other c.masks-half.ensures.0 in
    (omega (arith, room.0, c.requires.1), omega (arith, c.requires.1), room.1)

pub returns : goal.returns
returns c =
    removed_further _ _ _ _ c.args.tensor.now _ c.args.cell.now _ _
    c.if-left-axes.false
    c.masks-half.ensures.0
    c.remove_lowest.ensures
