-- After four stores the slice holds the numbers of the four modes and nothing of what stood there (`four_modes_stored`).
use mathlib.Core.Path.{◌≡◌}
use lib.ListN.{length}
use Rattle.c_axes.proofs.Found.{four_modes_stored}
use borrow.Author.Rules.{rules}
use Rattle.c_axes.proofs.store_modes.Goals as goal
use Rattle.c_axes.proofs.store_modes.Goals.{Start}

four_found : (s : Start) → length s.args.found ≡ 4
four_found s = search rules

pub returns : goal.returns
returns c =
    four_modes_stored c.args.found (four_found (goal.at.returns c).Start) c.args.modes.now c.requires
    c.store_mode.ensures c.store_mode-2.ensures c.store_mode-3.ensures
    c.store_mode-4.ensures
