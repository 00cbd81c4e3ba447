-- Where the host refuses nothing, axes are made of points and ends, then put in their modes, and refusal, bytes and length are the writer's on
-- these (`write_called`).
use mathlib.Core.Path.{refl, sym}
use Rattle.std.specs.Prelude.{Ok, Err}
use Rattle.sheet_write.specs.Write.{write_told}
use Rattle.c_refusals.proofs.Lengths.{write_lengths}
use Rattle.c_sheet.proofs.Exported.{write_called}
use Rattle.c_sheet.proofs.write.Goals as goal
use Rattle.c_sheet.proofs.write.Goals.{in-Ok, in-Err-write}

pub axes_given-given-requires : goal.axes_given-given-requires
axes_given-given-requires c = (write_lengths _ _ _ _ _ _ _ _ (sym c.in_default.ensures)).0

pub axes_in_modes-all-requires : goal.axes_in_modes-all-requires
axes_in_modes-all-requires c = (write_lengths _ _ _ _ _ _ _ _ (sym c.in_default.ensures)).1

pub returns : goal.returns
returns c =
    elim c.match-write.branch [
      | in-Ok w ↦
          rw w.number-is
          (write_called _ _ _ _ _ _ _ _ _ _ c.in_default.ensures refl _ _ c.axes_given-given.ensures c.axes_in_modes-all.ensures
          (write_told (Ok w.in-Ok.written)) w.in-Ok.ensures
          (rw w.number-is at c.store_one-2.ensures))
      | in-Err-write w ↦
          rw (w.number-is, w.number-in-Err-write.ensures)
          (write_called _ _ _ _ _ _ _ _ _ _ c.in_default.ensures refl _ _ c.axes_given-given.ensures c.axes_in_modes-all.ensures
          (write_told (Err w.in-Err-write.refusal)) w.in-Err-write.ensures
          (rw w.number-is at c.store_one-2.ensures))
    ]
