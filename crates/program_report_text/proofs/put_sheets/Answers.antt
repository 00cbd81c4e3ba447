-- The lines `sheets` and `accepted`, at most 28 and 30 bytes by `line_most`, and behind them the refusals', joined by `put_more`.
use native.Mathlib.Omega.{arith}
use lib.ListN.{get_or}
use Rattle.base_text.proofs.Puts.{put_more, put_length}
use Rattle.program_report_text.specs.ReportText.{sheets_word, sheets_line, accepted_word, accepted_line, sheets_lines}
use Rattle.program_report_text.proofs.Lengths.{line_most}
use Rattle.program_report_text.proofs.put_sheets.Goals as goal

pub put_word_line-sheets_end-requires : goal.put_word_line-sheets_end-requires
put_word_line-sheets_end-requires c = omega (arith, c.requires, line_most sheets_word c.args.totals.sheets)

pub put_word_line-accepted_end-requires : goal.put_word_line-accepted_end-requires
put_word_line-accepted_end-requires c =
    let sheets = c.put_word_line-sheets_end.ensures in
    let t = c.args.totals in
    omega
    (arith, c.requires, sheets.end, put_length sheets, line_most sheets_word t.sheets, line_most accepted_word (get_or t.refusals 0 0))

pub put_refusals-requires : goal.put_refusals-requires
put_refusals-requires c =
    let sheets = c.put_word_line-sheets_end.ensures in
    let accepted = c.put_word_line-accepted_end.ensures in
    let t = c.args.totals in
    omega (
      arith,
      c.requires,
      sheets.end,
      put_length sheets,
      line_most sheets_word t.sheets,
      accepted.end,
      put_length accepted,
      line_most accepted_word (get_or t.refusals 0 0),
    )

pub returns : goal.returns
unfolding sheets_lines sheets_line accepted_line
returns c = put_more c.put_word_line-sheets_end.ensures (put_more c.put_word_line-accepted_end.ensures c.put_refusals.ensures)
