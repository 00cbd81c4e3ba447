-- Where the host refuses nothing, four axes can be made (`own_fine`).
use mathlib.Core.Path.{sym}
use Rattle.c_verify.proofs.OwnRows.{own_fine}
use Rattle.c_verify.proofs.verify.Goals as goal

pub axes_given-all-requires : goal.axes_given-all-requires
axes_given-all-requires c =
    let fine = own_fine _ _ _ _ _ _ _ _ (sym c.in_default.ensures) in
    (fine.points_four, fine.kinds_eight, fine.values_eight)
