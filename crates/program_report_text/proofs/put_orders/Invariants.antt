-- The lines of the orders below `k` stand from `at` on, at most 67 bytes each, and `end` is the place behind them.
use lib.ListN.{get_or}
use Rattle.base_text.specs.PutBytes.{Put}
use Rattle.program_report_text.specs.ReportText.{lines_below, order_line}
use Rattle.program_report_text.proofs.put_orders.Given as goal

abbrev pub invariant-loop-k : goal.invariant-loop-k
invariant-loop-k l = Put (lines_below (λ i. order_line i (get_or l.orders i (record { entries = 0; nonzero = 0; largest = 0 }))) l.k) l.initial.text l.at l.text l.end
