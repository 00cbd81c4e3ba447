-- A refusal that did not occur has no line (`occurred_none`); else its number, in at most 10 bytes with the word, and its count, in at
-- most 22 with space and LF, make one (`occurred_put`).
use native.Mathlib.Omega.{arith}
use Rattle.base_text.proofs.Puts.{put_length}
use Rattle.program_report_text.specs.ReportText.{space}
use Rattle.program_report_text.proofs.Lengths.{line_most, refused_front_most}
use Rattle.program_report_text.proofs.Lines.{occurred_none, occurred_put}
use Rattle.program_report_text.proofs.put_occurred.Goals as goal

pub returns-then-count-eq0 : goal.returns-then-count-eq0
returns-then-count-eq0 c = occurred_none _ _ c.if-count-eq0.true

pub put_word_line-requires : goal.put_word_line-requires
put_word_line-requires c =
    let front = c.put_word_number-number_end.ensures in
    omega
    (arith, c.requires.1, front.end, put_length front, refused_front_most c.args.number c.requires.0, line_most space c.args.count)

pub returns : goal.returns
returns c = occurred_put _ _ c.if-count-eq0.false c.put_word_number-number_end.ensures c.put_word_line.ensures
