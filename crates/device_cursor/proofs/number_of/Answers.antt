-- The number of cell i at position k, the cell read from the curve: that it is in range is required, and so handed on.
use mathlib.Core.Path.{ap, ◌∙◌}
use mir.Syntax.{w32}
use mir.ValLaws.{to_z-of_z}
use Rattle.device_cell.specs.DeviceCell.{cell_number}
use Rattle.device_cell.specs.declared.Cell.{Cell}
use Rattle.device_cursor.proofs.number_of.Goals as goal

pub cell_number-requires : goal.cell_number-requires
cell_number-requires c = rw c.cell_at.ensures (c.requires.1, c.requires.2)

pub returns : goal.returns
returns c =
    let k = c.args.k in
    rw (to_z-of_z w32 c.cell_number.result (record { sfits = c.cell_number.type_inv }))
    (c.cell_number.ensures ∙ ap (λ (x : Cell). cell_number x k) c.cell_at.ensures)
