-- One more of all sheets and of those with this number. A report has few enough for both counts to fit.
use native.Mathlib.Omega.{arith}
use Rattle.report_totals.proofs.Sheets.{refused_most, sheets_most}
use Rattle.report_totals.proofs.with_sheet.Goals as goal

pub overflow_add-refusals : goal.overflow_add-refusals
overflow_add-refusals c = let pre = c.requires in let most = refused_most _ _ pre.1 pre.0 in omega arith

pub overflow_add-result : goal.overflow_add-result
overflow_add-result c = let most = sheets_most _ c.requires.1 in omega arith
