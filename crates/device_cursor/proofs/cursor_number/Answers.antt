-- Below the last cursor it is cell n / 256 at n mod 256, and at the last one the last cell at 256. Of a curve that is not refused
-- there is a cell, and each is in range, which is what `number_of` asks.
use mathlib.Core.Path.{◌∙◌}
use Prim.Native.Nat.{◌-◌, ◌/◌}
use native.Mathlib.Omega.{arith}
use lib.ListN.{length}
use mir.Syntax.{w32}
use mir.ValLaws.{to_z-of_z}
use Rattle.device_cursor.proofs.Judged.{Whole, length_known, cell_known}
use Rattle.device_cursor.proofs.Steps.{number_before, number_last}
use Rattle.device_cursor.proofs.cursor_number.Goals as goal
use Rattle.device_cursor.proofs.cursor_number.Goals.{Start}

known : (s : Start) → Whole (length s.args.curve.now)
known s = length_known _ s.requires.0

pub overflow_mul-cells : goal.overflow_mul-cells
overflow_mul-cells c = let w = known (goal.at.overflow_mul-cells c).Start in omega arith

pub number_of-requires : goal.number_of-requires
number_of-requires c =
    let w = known (goal.at.number_of-requires c).Start in
    let l = c.if-n-cells.true in
    (omega arith, cell_known c.args.curve.now c.requires.0 (c.args.n / 256) (omega arith), omega arith)

pub overflow_sub-cells : goal.overflow_sub-cells
overflow_sub-cells c = let w = known (goal.at.overflow_sub-cells c).Start in omega arith

pub number_of-requires-else-n-cells : goal.number_of-requires-else-n-cells
number_of-requires-else-n-cells c =
    let w = known (goal.at.number_of-requires-else-n-cells c).Start in
    (omega arith, cell_known c.args.curve.now c.requires.0 (length c.args.curve.now / 16 - 1) (omega arith), omega arith)

pub returns-then-n-cells : goal.returns-then-n-cells
returns-then-n-cells c =
    rw (to_z-of_z w32 c.number_of.result (record { sfits = c.number_of.type_inv }))
    (c.number_of.ensures ∙ number_before _ _ c.if-n-cells.true)

pub returns-else-n-cells : goal.returns-else-n-cells
returns-else-n-cells c =
    rw (to_z-of_z w32 c.number_of-else-n-cells.result (record { sfits = c.number_of-else-n-cells.type_inv }))
    (c.number_of-else-n-cells.ensures ∙ number_last _ _ c.if-n-cells.false)
