-- Where the host refuses nothing, `sheet_tensor_lengths` gives every slot its length, and the three buffers, scratch, axes, modes, edition
-- and length are those of the sheet, read and built (`sheet_tensor_called`).
use mathlib.Core.Path.{refl, sym}
use native.Mathlib.Omega.{arith}
use Rattle.std.specs.Prelude.{Ok, Err}
use Rattle.sheet_build.specs.SheetTensor.{sheet_told}
use Rattle.sheet_build.specs.declared.SheetRefusal.TheVariants.{Unread, Unbuilt}
use Rattle.c_refusals.proofs.Lengths.{sheet_tensor_lengths}
use Rattle.c_sheet.proofs.Exported.{sheet_tensor_called}
use Rattle.c_sheet.proofs.sheet_tensor.Goals as goal
use Rattle.c_sheet.proofs.sheet_tensor.Goals.{in-Ok, in-Err-Unread, in-Err-Unbuilt}

pub bounds-length-0 : goal.bounds-length-0
bounds-length-0 c =
    let lengths = sheet_tensor_lengths _ _ _ _ _ _ _ (sym c.in_default.ensures) in
    let one = lengths.1 in omega arith

pub bounds-axes-0 : goal.bounds-axes-0
bounds-axes-0 c =
    let lengths = sheet_tensor_lengths _ _ _ _ _ _ _ (sym c.in_default.ensures) in
    let one = lengths.0.one_slot in omega arith

pub store_axes-requires : goal.store_axes-requires
store_axes-requires c = (sheet_tensor_lengths _ _ _ _ _ _ _ (sym c.in_default.ensures)).0.for_axes

pub store_told-requires : goal.store_told-requires
store_told-requires c =
    let lengths = sheet_tensor_lengths _ _ _ _ _ _ _ (sym c.in_default.ensures) in
    (lengths.0.four_modes, lengths.0.one_edition)

pub returns : goal.returns
returns c =
    elim c.match-tensor_of_sheet.branch [
      | in-Ok w ↦
          rw w.number-is
          (sheet_tensor_called _ _ _ _ _ _ _ _ _ _ _ _ c.in_default.ensures refl
          (sheet_told (Ok w.in-Ok.built)) w.in-Ok.ensures.0
          (rw w.number-is at c.store_axes.ensures) (rw w.number-is at c.store_told.ensures))
      | in-Err-Unread w ↦
          rw (w.number-is, w.number-in-Err-Unread.ensures, w.no_sheet.ensures)
          (sheet_tensor_called _ _ _ _ _ _ _ _ _ _ _ _ c.in_default.ensures refl
          (sheet_told (Err (Unread w.in-Err-Unread.refusal))) (rw w.in-Err-Unread.field-0-is at w.in-Err-Unread.ensures.0)
          (rw (w.number-is, w.no_sheet.ensures) at c.store_axes.ensures) (rw (w.number-is, w.no_sheet.ensures) at c.store_told.ensures))
      | in-Err-Unbuilt w ↦
          rw (w.number-is, w.number-in-Err-Unbuilt.ensures)
          (sheet_tensor_called _ _ _ _ _ _ _ _ _ _ _ _ c.in_default.ensures refl
          (sheet_told (Err (Unbuilt w.in-Err-Unbuilt.refusal w.in-Err-Unbuilt.sheet))) (rw w.in-Err-Unbuilt.field-0-is at w.in-Err-Unbuilt.ensures.0)
          (rw w.number-is at c.store_axes.ensures) (rw w.number-is at c.store_told.ensures))
    ]
