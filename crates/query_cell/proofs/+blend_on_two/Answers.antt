-- What `blend` does, on two axes: while an axis is left the lowest is removed (`one_fewer`), and with none left the cell is one number
-- (`none_left`).
use native.Mathlib.Omega.{arith}
use Rattle.query_cell.proofs.Fewer.{none_left, one_fewer}
use Rattle.query_cell.proofs.+blend_on_two.Goals as goal

pub returns-then-left-gt0 : goal.returns-then-left-gt0
returns-then-left-gt0 t c =
    one_fewer _ _ _ c.args.weights.now.now c.args.tensor.now.now c.args.left c.args.cell.now _
    (λ none. omega (arith, c.if-left-gt0.true, none))
    c.requires.2
    (rw c.weights_of-weights_there.ensures at c.remove_of_two.ensures)
    _
    c.blend_on_two.ensures

pub returns : goal.returns
returns t c =
    none_left _ _ _ c.args.weights.now.now c.args.tensor.now.now _ c.args.cell.now (omega arith) (omega (arith, c.if-left-gt0.false))
