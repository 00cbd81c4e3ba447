-- `report_through` meets its contract: the loop's invariant is `Turn`, and its measure the sheets that a report may still count.
use Prim.Native.Nat.{◌-◌}
use Rattle.report_totals.specs.Totals.{most_sheets}
use Rattle.program_report_print.proofs.Turns.{Turn}
use Rattle.program_report_print.proofs.report_through.Given as goal

abbrev pub invariant-loop-filled : goal.invariant-loop-filled
invariant-loop-filled l = Turn l.initial.buffer l.initial.filled l.buffer l.sum l.filled l.brought

abbrev pub decreases-loop-filled : goal.decreases-loop-filled
decreases-loop-filled l = most_sheets - l.sum.sheets
