-- Where the host refuses nothing, points, kinds and values have their lengths (`build_lengths`).
use mathlib.Core.Path.{sym}
use Rattle.c_refusals.proofs.Lengths.{build_lengths}
use Rattle.c_tensor.proofs.build.Goals as goal

pub axes_given-all-requires : goal.axes_given-all-requires
axes_given-all-requires c = build_lengths _ _ _ _ _ _ _ (sym c.in_default.ensures)
