-- Where the host refuses nothing, four axes and a place of four can be made (`change_lengths`), and the tensor, the scratch and the count
-- of lanes are the change's (`change_called`).
use mathlib.Core.Path.{refl, sym}
use Rattle.std.specs.Prelude.{Ok, Err}
use Rattle.rules.specs.Answers.{change_told}
use Rattle.c_refusals.proofs.Lengths.{change_lengths}
use Rattle.c_tensor.proofs.Exported.{change_called}
use Rattle.c_tensor.proofs.change.Goals as goal
use Rattle.c_tensor.proofs.change.Goals.{in-Ok, in-Err-change}

pub axes_given-all-requires : goal.axes_given-all-requires
axes_given-all-requires c =
    let lengths = change_lengths _ _ _ _ _ _ _ _ (sym c.in_default.ensures) in
    (lengths.1, lengths.2, lengths.3)

pub place_given-changed-requires : goal.place_given-changed-requires
place_given-changed-requires c = (change_lengths _ _ _ _ _ _ _ _ (sym c.in_default.ensures)).0

pub returns : goal.returns
returns c =
    elim c.match-change.branch [
      | in-Ok w ↦
          rw w.number-is
          (change_called _ _ _ _ _ _ _ _ _ _ c.in_default.ensures refl _ c.axes_given-all.ensures _ c.place_given-changed.ensures
          (change_told (Ok w.in-Ok.solved)) w.in-Ok.ensures (rw w.number-is at c.store_one-2.ensures))
      | in-Err-change w ↦
          rw (w.number-is, w.number-in-Err-change.ensures)
          (change_called _ _ _ _ _ _ _ _ _ _ c.in_default.ensures refl _ c.axes_given-all.ensures _ c.place_given-changed.ensures
          (change_told (Err w.in-Err-change.refusal)) w.in-Err-change.ensures (rw w.number-is at c.store_one-2.ensures))
    ]
