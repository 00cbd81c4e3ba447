-- The buffer has 524,288 bytes, told by a lemma on lists of one repeated byte, since so many are too many to count by computing; a read
-- leaves their number as it is.
use mathlib.Core.Path.{sym, ◌∙◌}
use Prim.Native.Nat.{ℕ}
use lib.ListN.{length-replicate}
use Rattle.program_report_print.proofs.run.Goals as goal

pub slice_bounds-read_input-end : goal.slice_bounds-read_input-end
slice_bounds-read_input-end c = sym (length-replicate {A = ℕ} 524288 0)

pub slice_bounds-report_through-end : goal.slice_bounds-report_through-end
slice_bounds-report_through-end c = sym (c.read_input.auto.buffer ∙ length-replicate {A = ℕ} 524288 0)

pub report_through-requires : goal.report_through-requires
report_through-requires c = record {
  long = c.read_input.auto.buffer ∙ length-replicate {A = ℕ} 524288 0;
  most = rw c.in-Ok.is at c.read_input.ensures;
}
