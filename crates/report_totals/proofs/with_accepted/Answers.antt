-- The entries of its tensor are added to the orders, and the sheet to those of number 0.
use native.Mathlib.Omega.{arith}
use Rattle.report_totals.proofs.Sheets.{running_room, sheet_adds}
use Rattle.report_totals.proofs.with_accepted.Goals as goal

pub tally-orders-requires : goal.tally-orders-requires
tally-orders-requires c = let pre = c.requires in (pre.0, running_room _ _ pre.1 pre.0.small)

pub returns : goal.returns
returns c = sheet_adds _ 0 (omega arith) _ _ c.tally-orders.ensures _ c.with_sheet.ensures
