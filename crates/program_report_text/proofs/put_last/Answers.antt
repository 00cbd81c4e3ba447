-- `stopped` or `end`, each with its LF: the last line that the rules give, and 8 bytes have room for either.
use Rattle.program_report_text.proofs.Lines.{stopped_put, end_put}
use Rattle.program_report_text.proofs.put_last.Goals as goal

pub returns-then-stopped : goal.returns-then-stopped
returns-then-stopped c = stopped_put _ c.if-stopped.true c.put_word.ensures

pub returns : goal.returns
returns c = end_put _ c.if-stopped.false c.put_word-2.ensures
