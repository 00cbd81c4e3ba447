-- The lines of the sheets, those of the orders and the last one, each right behind the one before: at most 794, 335 and 8 bytes, which
-- makes the 1,137 that are required.
use native.Mathlib.Omega.{arith}
use Rattle.base_text.proofs.Puts.{put_more, put_length}
use Rattle.program_report_text.specs.ReportText.{report_text}
use Rattle.program_report_text.proofs.Lengths.{sheets_lines_most, order_lines_most}
use Rattle.program_report_text.proofs.put_report.Goals as goal

pub put_orders-orders_end-requires : goal.put_orders-orders_end-requires
put_orders-orders_end-requires c =
    let sheets = c.put_sheets-sheets_end.ensures in
    omega (arith, c.requires, sheets.end, put_length sheets, sheets_lines_most c.args.report.totals)

pub put_last-requires : goal.put_last-requires
put_last-requires c =
    let sheets = c.put_sheets-sheets_end.ensures in
    let orders = c.put_orders-orders_end.ensures in
    let t = c.args.report.totals in
    omega (arith, c.requires, sheets.end, put_length sheets, sheets_lines_most t, orders.end, put_length orders, order_lines_most t.orders)

pub returns : goal.returns
unfolding report_text
returns c = put_more c.put_sheets-sheets_end.ensures (put_more c.put_orders-orders_end.ensures c.put_last.ensures)
