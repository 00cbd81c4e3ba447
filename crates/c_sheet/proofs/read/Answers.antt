-- Where the host refuses nothing each slot and slice has its length (`read_lengths`), and both buffers, the axes as numbers, their modes and
-- the edition are what the reader gives of the bytes (`read_called`).
use mathlib.Core.Path.{refl, sym}
use native.Mathlib.Omega.{arith}
use Rattle.std.specs.Prelude.{Ok, Err}
use Rattle.sheet_read.specs.Read.{read_told}
use Rattle.c_refusals.proofs.Lengths.{read_lengths}
use Rattle.c_sheet.proofs.Exported.{read_called}
use Rattle.c_sheet.proofs.read.Goals as goal
use Rattle.c_sheet.proofs.read.Goals.{in-Ok, in-Err-read}

pub bounds-axes-0 : goal.bounds-axes-0
bounds-axes-0 c =
    let lengths = read_lengths _ _ _ _ _ _ (sym c.in_default.ensures) in
    let one = lengths.one_slot in omega arith

pub store_axes-requires : goal.store_axes-requires
store_axes-requires c = (read_lengths _ _ _ _ _ _ (sym c.in_default.ensures)).for_axes

pub store_told-requires : goal.store_told-requires
store_told-requires c =
    let lengths = read_lengths _ _ _ _ _ _ (sym c.in_default.ensures) in
    (lengths.four_modes, lengths.one_edition)

pub returns : goal.returns
returns c =
    elim c.match-read.branch [
      | in-Ok w ↦
          rw w.number-is
          (read_called _ _ _ _ _ _ _ _ _ c.in_default.ensures refl
          (read_told (Ok w.in-Ok.sheet)) w.in-Ok.ensures
          (rw w.number-is at c.store_axes.ensures) (rw w.number-is at c.store_told.ensures))
      | in-Err-read w ↦
          rw (w.number-is, w.number-in-Err-read.ensures, w.no_sheet.ensures)
          (read_called _ _ _ _ _ _ _ _ _ c.in_default.ensures refl
          (read_told (Err w.in-Err-read.refusal)) w.in-Err-read.ensures
          (rw (w.number-is, w.no_sheet.ensures) at c.store_axes.ensures) (rw (w.number-is, w.no_sheet.ensures) at c.store_told.ensures))
    ]
