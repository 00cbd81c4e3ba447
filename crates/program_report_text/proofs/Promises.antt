-- The promise of the call, for each way that it ends: the text is too short, or the report's text is written.
use mathlib.Core.List.{List}
use Prim.Native.Nat.{ℕ, ◌<◌, ◌≤◌}
use native.Mathlib.Omega.{arith}
use borrow.Author.Tests.{lt-ltb, le-ltb}
use lib.ListN.{length}
use Rattle.base_text.specs.PutBytes.{Put}
use Rattle.base_text.proofs.Puts.{put_written}
use Rattle.report_totals.specs.declared.Report.{Report}
use Rattle.rules.proofs.Refused.{counted_most}
use Rattle.program_report_text.specs.ReportText.{
  report_text,
  report_length,
  report_text_refusal,
  report_text_answer,
  ReportTextPromise,
  ReportTextAnswer,
}
use Rattle.program_report_text.proofs.Lengths.{text_fits}

module _ (report : Report) (text : List ℕ) where
  pub too_short : length text < report_length → ReportTextPromise report text (record { refusal = 15; length = 0 }) text
  unfolding report_text_answer
  too_short short =
      let e = lt-ltb (length text) report_length short in
      record { answer = rw e; text = rw e }

  pub text_written : (later : List ℕ) (end : ℕ) → report_length ≤ length text → Put (report_text report) text 0 later end
      → ReportTextPromise report text (record { refusal = 0; length = end }) later
  unfolding report_text_answer
  text_written later end long put =
      let e = le-ltb (length text) report_length long in
      let done = put_written put (omega (arith, text_fits report)) in
      record { answer = rw (e, done.1); text = rw (e, done.0) }

-- what a caller knows of the answer: the text has no more bytes than the length that is asked for
pub length_most : (report : Report) (text : List ℕ) (given : ReportTextAnswer) (later : List ℕ) → ReportTextPromise report text given later
    → given.length ≤ report_length
unfolding report_text_answer
length_most report text given later p =
    rw p.answer (counted_most (report_text_refusal (length text)) (text_fits report))
