-- A fault is counted by its number; a sheet without one is built and counted.
use Rattle.rules.proofs.Given.{number_some}
use Rattle.report.proofs.CountedAlone.{fault_counted}
use Rattle.report.proofs.count_sheet.Goals as goal

pub count_read-requires : goal.count_read-requires
count_read-requires c =
    let pre = c.requires in
    (pre.0, rw c.in-Ok.is at pre.1, pre.2)

pub returns-in-Err : goal.returns-in-Err
returns-in-Err c = fault_counted _ _ (rw c.in-Err.is at c.requires.1) _ _ (number_some _) c.with_refused.ensures
