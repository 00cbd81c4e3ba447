-- `refill` meets its contract: the part behind the kept bytes is read into, and those in front of it stay.
use lib.ListN.{length}
use lib.Seq.{drop-length}
use borrow.Rule.Slice.PartMut.{Post-is}
use Rattle.program_report_print.proofs.Turns.{refilled}
use Rattle.program_report_print.proofs.refill.Goals as goal

pub returns : goal.returns
returns c =
    let input = c.read_input in
    let parts = Post-is c.args.kept (length c.args.buffer.now) c.args.buffer.now c.requires in
    let end = drop-length c.args.buffer.now in
    rw (parts, end) (refilled c.args.buffer.now input.new.buffer _ _ c.requires input.ensures)
