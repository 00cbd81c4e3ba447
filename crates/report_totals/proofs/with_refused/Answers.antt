-- A refused sheet adds no entries, so the orders stay as they are (`nothing_tallied`), and its number has a place among the counts.
use native.Mathlib.Omega.{arith}
use Prim.Native.Nat.{◌<◌}
use Rattle.rules.specs.Answers.{number_of}
use Rattle.rules.proofs.Given.{number_most}
use Rattle.report_totals.proofs.Sheets.{sheet_adds, nothing_tallied}
use Rattle.report_totals.proofs.with_refused.Goals as goal

pub with_sheet-requires : goal.with_sheet-requires
with_sheet-requires c = (omega (arith, number_most c.args.refusal, c.number.ensures), c.requires)

pub returns : goal.returns
returns c =
    let few : number_of c.args.refusal < 24 = omega (arith, number_most c.args.refusal) in
    sheet_adds _ _ few _ _ (nothing_tallied _) _ (rw c.number.ensures at c.with_sheet.ensures)
