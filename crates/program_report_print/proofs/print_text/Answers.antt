-- No report's text is longer than 1,137 bytes (`length_most`), so what goes to standard output is a part of the array.
use native.Mathlib.Omega.{arith}
use Rattle.program_report_text.proofs.Promises.{length_most}
use Rattle.program_report_print.proofs.print_text.Goals as goal

pub slice_bounds-write_output-end : goal.slice_bounds-write_output-end
slice_bounds-write_output-end c = let most = length_most _ _ _ _ (rw c.in-Ok.is at c.report_text-written.ensures) in omega arith
