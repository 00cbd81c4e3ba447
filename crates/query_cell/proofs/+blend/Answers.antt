-- With no axis left the cell is one number (`none_left`); else the blend of what is left without the lowest axis is that of the cell
-- (`one_fewer`).
use Rattle.query_cell.proofs.Fewer.{none_left, one_fewer}
use Rattle.query_cell.proofs.+blend.Goals as goal

pub returns-then-left-eq0 : goal.returns-then-left-eq0
returns-then-left-eq0 t c =
    none_left _ _ _ c.args.weights.now.now c.args.tensor.now.now _ c.args.cell.now c.requires.0.0.some_axes c.if-left-eq0.true

pub returns : goal.returns
returns t c =
    one_fewer _ _ _ c.args.weights.now.now c.args.tensor.now.now c.args.left c.args.cell.now _
    c.if-left-eq0.false
    c.requires.2
    (rw c.weights_of-weights_there.ensures at c.remove_lowest.ensures)
    _
    c.blend.ensures
