-- A text of fewer than 1,137 bytes is refused by 15 and stays (`too_short`); any other has the report's text at its front
-- (`text_written`).
use Rattle.program_report_text.proofs.Promises.{too_short, text_written}
use Rattle.program_report_text.proofs.report_text.Goals as goal

pub returns-then-text-lt1137 : goal.returns-then-text-lt1137
returns-then-text-lt1137 c = too_short _ _ c.if-text-lt1137.true

pub returns : goal.returns
returns c = text_written _ _ _ _ c.if-text-lt1137.false c.put_report.ensures
