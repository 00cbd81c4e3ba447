use mathlib.Core.Path.{◌≡◌, ◌∙◌}
use native.Mathlib.Omega.{arith}
use lib.ListN.{length}
use mir.Syntax.{w32}
use mir.Val.{to_z, of_z}
use mir.ValLaws.{to_z-of_z}
use Rattle.device_cursor.specs.DeviceCurve.{cursor_number}
use Rattle.device_cursor.proofs.Judged.{Whole, length_known}
use Rattle.program_device_text.proofs.Lines.{turn_first, turn_length, next_fits, turn_next, turn_last}
use Rattle.program_device_text.proofs.put_numbers.Goals as goal
use Rattle.program_device_text.proofs.put_numbers.Goals.{After-cursor_number-number, Start}

known : (s : Start) → Whole (length s.args.curve.now)
known s = length_known _ s.requires.0

-- the number is the cursor's
read : (c : After-cursor_number-number)
    → to_z w32 (of_z w32 c.cursor_number-number.result)
    ≡ cursor_number c.args.curve.now c.loop-n.n
read c = to_z-of_z w32 c.cursor_number-number.result (record { sfits = c.cursor_number-number.type_inv }) ∙ c.cursor_number-number.ensures

pub overflow_mul-count : goal.overflow_mul-count
overflow_mul-count c = let w = known (goal.at.overflow_mul-count c).Start in omega arith

pub overflow_add-count : goal.overflow_add-count
overflow_add-count c = let w = known (goal.at.overflow_add-count c).Start in omega arith

pub loop-n-init : goal.loop-n-init
loop-n-init c = turn_first _ _

pub cursor_number-number-requires : goal.cursor_number-number-requires
cursor_number-number-requires c = let t = c.loop-n-test.true in (c.requires.0, omega arith)

pub put_signed_line-end-requires : goal.put_signed_line-end-requires
put_signed_line-end-requires c =
    let t = c.loop-n-test.true in
    let w = known (goal.at.put_signed_line-end-requires c).Start in
    rw (read (goal.at.put_signed_line-end-requires c).After-cursor_number-number) (omega (arith, next_fits c.requires.0 c.loop-n.invariant t, turn_length c.loop-n.invariant, c.requires.1))

pub loop-n-preserved : goal.loop-n-preserved
loop-n-preserved c =
    turn_next c.requires.0 c.loop-n.invariant c.loop-n-test.true
    (rw (read (goal.at.loop-n-preserved c).After-cursor_number-number) at c.put_signed_line-end.ensures)

pub returns : goal.returns
returns c = turn_last c.loop-n.invariant c.loop-n-test.false
