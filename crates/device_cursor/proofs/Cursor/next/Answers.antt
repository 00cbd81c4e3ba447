-- A refused step keeps the cursor and gives 0. Else the curve was judged good and the cursor is not past the last one,
-- so the value is the number there, and one more still fits 32 bits, since a curve has at most 255 cells.
use mathlib.Core.Path.{sym}
use native.Mathlib.Omega.{arith}
use lib.ListN.{length}
use mir.Syntax.{w32}
use mir.ValLaws.{to_z-of_z}
use Rattle.device_cell.proofs.Given.{err_given, number_some}
use Rattle.device_cursor.proofs.Judged.{Whole, length_known}
use Rattle.device_cursor.proofs.Steps.{passed, step_refused, step_given}
use Rattle.device_cursor.proofs.Cursor.next.Goals as goal

pub returns-in_err-check_next : goal.returns-in_err-check_next
returns-in_err-check_next c =
    rw (err_given c.from_residual.result _ c.from_residual.ensures.1)
    (record { answer = step_refused _ _ _ c.in_err-check_next.ensures (number_some _) })

pub cursor_number-value-requires : goal.cursor_number-value-requires
cursor_number-value-requires c = passed _ _ (sym c.in_ok-check_next.ensures)

pub overflow_add-result : goal.overflow_add-result
overflow_add-result c =
    let k = passed c.args.curve.now c.args.self.n (sym c.in_ok-check_next.ensures) in
    let w : Whole (length c.args.curve.now) = length_known _ k.0 in
    let l = k.1 in
    omega arith

pub returns : goal.returns
returns c =
    let v = c.cursor_number-value in
    record {
      answer =
          rw (to_z-of_z w32 v.result (record { sfits = v.type_inv }))
          (step_given _ _ _ (sym c.in_ok-check_next.ensures) v.ensures);
    }
