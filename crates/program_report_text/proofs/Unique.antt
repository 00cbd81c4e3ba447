-- The promise has one answer: whatever satisfies it, for the same report and the same lent text, is equal in its answer and in the text.
use mathlib.Core.Path.{◌≡◌, sym, ◌∙◌}
use mathlib.Core.List.{List}
use Prim.Native.Nat.{ℕ}
use Rattle.report_totals.specs.declared.Report.{Report}
use Rattle.program_report_text.specs.ReportText.{ReportTextPromise, ReportTextAnswer}

pub report_text_unique : (report : Report) (text : List ℕ) (a a' : ReportTextAnswer) (x x' : List ℕ)
    → ReportTextPromise report text a x → ReportTextPromise report text a' x' → (a ≡ a') × (x ≡ x')
report_text_unique report text a a' x x' p q = (p.answer ∙ sym q.answer, p.text ∙ sym q.text)
