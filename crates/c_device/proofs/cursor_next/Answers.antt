-- Either slot of another length is 4 with nothing written; else the refusal, the cursor and the value are those of one step from the cursor
-- that stood in its slot (`next_called`), which a refused step leaves there (`next_refused`).
use native.Mathlib.Omega.{arith}
use mir.Syntax.{w32}
use mir.Val.{SFits}
use mir.ValLaws.{to_z-of_z}
use Rattle.c_device.proofs.Exported.{next_called, next_refused}
use borrow.Author.Rules.{rules}
use Rattle.c_device.proofs.cursor_next.Goals as goal

pub returns-in-Ok : goal.returns-in-Ok
returns-in-Ok c =
    let f : SFits w32 c.in-Ok.number = search rules in
    rw (to_z-of_z w32 c.in-Ok.number f) (next_called _ _ _ (omega arith) (omega arith) _ c.in-Ok.ensures)

pub returns-in-Err : goal.returns-in-Err
returns-in-Err c = rw c.number.ensures (next_refused _ _ _ (omega arith) (omega arith) _ c.in-Err.ensures)
