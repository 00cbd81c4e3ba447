-- The modes are the numbers of the axes' modes, and the one write of the edition fills its slot (`one_stored`).
use Rattle.c_axes.proofs.Slots.{one_stored}
use Rattle.c_sheet.proofs.store_told.Goals as goal

pub returns : goal.returns
returns c = (c.store_modes.ensures, one_stored c.args.edition.now c.args.said c.requires.1)
