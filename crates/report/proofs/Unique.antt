-- The promise has one answer: whatever satisfies it, for the same bytes, is equal.
use mathlib.Core.Path.{◌≡◌, sym, ◌∙◌}
use mathlib.Core.List.{List}
use Prim.Native.Nat.{ℕ}
use Rattle.report_totals.specs.declared.Report.{Report}
use Rattle.report.specs.Report.{ReportPromise}

pub report_unique : (bytes : List ℕ) (a a' : Report) → ReportPromise bytes a → ReportPromise bytes a' → a ≡ a'
report_unique bytes a a' p q = p.answer ∙ sym q.answer
