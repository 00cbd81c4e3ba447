-- From the totals of nothing, which stand before the first byte (`stands_none`), a feeding that leaves no byte unless it stops has the
-- report of all of them (`fed_last`).
use native.Mathlib.Omega.{arith}
use Rattle.report_totals.proofs.Sheets.{running_none}
use Rattle.report.proofs.Progressing.{stands_none, fed_last}
use Rattle.report.proofs.report_of_bytes.Goals as goal

pub feed-last-requires : goal.feed-last-requires
feed-last-requires c = (running_none _ c.none.ensures, omega arith)

pub returns : goal.returns
returns c = record { answer = fed_last _ _ _ _ c.feed-last.ensures (stands_none _ _ c.none.ensures) }
