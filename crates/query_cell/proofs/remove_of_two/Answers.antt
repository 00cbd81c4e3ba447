-- The first axis is removed from the tensor, and the other leaves one number of the cell.
use native.Mathlib.Omega.{arith}
use Rattle.query_cell.proofs.Removing.{removed_first, removed_last}
use Rattle.query_cell.proofs.remove_of_two.Goals as goal

pub returns-then-left-eq2 : goal.returns-then-left-eq2
returns-then-left-eq2 c = removed_first _ _ _ _ c.args.tensor.now _ c.args.cell.now _ c.if-left-eq2.true c.first_of_two.ensures

pub returns : goal.returns
returns c =
    removed_last _ _ _ c.args.tensor.now _ c.args.cell.now _ c.if-left-eq2.false c.requires.2.0 c.requires.2.1
    c.one_blended.ensures (omega (arith, c.requires.1))
