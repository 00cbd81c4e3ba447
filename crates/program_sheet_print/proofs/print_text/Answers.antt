-- The length that is answered is at most 69,644 (`length_most`), so the part that is written out lies inside the text's array.
use native.Mathlib.Omega.{arith}
use Rattle.program_sheet_text.proofs.Promises.{length_most}
use Rattle.program_sheet_print.proofs.print_text.Goals as goal

pub slice_bounds-write_output-end : goal.slice_bounds-write_output-end
slice_bounds-write_output-end c = let most = length_most _ _ _ _ _ _ _ _ _ _ _ _ (rw c.in-Ok.is at c.sheet_text-written.ensures) in omega arith
