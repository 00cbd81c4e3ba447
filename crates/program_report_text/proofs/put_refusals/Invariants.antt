-- The lines of those refusals below `number` that occurred stand from `at` on, at most 32 bytes each, and `end` is the place behind them.
use Prim.Native.Nat.{suc, ◌-◌}
use lib.ListN.{get_or}
use Rattle.base_text.specs.PutBytes.{Put}
use Rattle.program_report_text.specs.ReportText.{lines_below, occurred_line}
use Rattle.program_report_text.proofs.put_refusals.Given as goal

abbrev pub invariant-loop-number : goal.invariant-loop-number
invariant-loop-number l =
    Put (lines_below (λ k. occurred_line (suc k) (get_or l.refusals (suc k) 0)) (l.number - 1)) l.initial.text l.at l.text l.end
