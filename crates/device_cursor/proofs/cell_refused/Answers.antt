-- A flag for each of the four numbers of the cell, laid over each other.
use Rattle.device_cursor.proofs.Judged.{cell_flags}
use Rattle.device_cursor.proofs.cell_refused.Goals as goal

pub returns : goal.returns
returns c =
    cell_flags _ c.args.i _ _ _ _ c.number_refused.ensures c.number_refused-2.ensures
    c.number_refused-3.ensures c.number_refused-4.ensures
