-- Where the host refuses nothing, refusal and buffers are those of the reader of edition 1, and the number of axes, points, kinds and values
-- stand in slices whose lengths `read_edition_1_lengths` gives.
use mathlib.Core.Path.{refl, sym}
use native.Mathlib.Omega.{arith}
use Rattle.std.specs.Prelude.{Ok, Err}
use Rattle.sheet_read.specs.Read.{edition_1_told}
use Rattle.c_refusals.proofs.Lengths.{read_edition_1_lengths}
use Rattle.c_sheet.proofs.Exported.{read_edition_1_called}
use Rattle.c_sheet.proofs.read_edition_1.Goals as goal
use Rattle.c_sheet.proofs.read_edition_1.Goals.{in-Ok, in-Err-read_edition_1}

pub bounds-axes-0 : goal.bounds-axes-0
bounds-axes-0 c = let lengths = read_edition_1_lengths _ _ _ _ (sym c.in_default.ensures) in omega arith

pub store_axes-requires : goal.store_axes-requires
store_axes-requires c =
    let lengths = read_edition_1_lengths _ _ _ _ (sym c.in_default.ensures) in
    (lengths.1, lengths.2, lengths.3)

pub returns : goal.returns
returns c =
    elim c.match-read_edition_1.branch [
      | in-Ok w ↦
          rw w.number-is
          (read_edition_1_called _ _ _ _ _ _ _ c.in_default.ensures refl
          (edition_1_told (Ok w.in-Ok.sheet)) w.in-Ok.ensures
          (rw w.number-is at c.store_axes.ensures))
      | in-Err-read_edition_1 w ↦
          rw (w.number-is, w.number-in-Err-read_edition_1.ensures, w.no_sheet_of_edition_1.ensures)
          (read_edition_1_called _ _ _ _ _ _ _ c.in_default.ensures refl
          (edition_1_told (Err w.in-Err-read_edition_1.refusal)) w.in-Err-read_edition_1.ensures
          (rw (w.number-is, w.no_sheet_of_edition_1.ensures) at c.store_axes.ensures))
    ]
