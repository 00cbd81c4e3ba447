-- Where the report had come to these bytes of an input, it has now come to those from `at` on, and the buffers keep their lengths.
-- The measure is the bytes left: a turn that does not stop takes at least one.
use Prim.Native.Nat.{◌-◌}
use lib.ListN.{length}
use Rattle.report.proofs.Progressing.{Alike, Turn}
use Rattle.report.proofs.take_sheets.Given as goal

abbrev pub invariant-loop-at : goal.invariant-loop-at
invariant-loop-at l = Turn l.initial.sum l.bytes l.least l.sum l.at × Alike l.initial.knots l.initial.samples l.initial.scratch l.knots l.samples l.scratch

abbrev pub decreases-loop-at : goal.decreases-loop-at
decreases-loop-at l = length l.bytes - l.at
