-- What 8 looks at by each way: all knots for a walk, the found cell's for a search and for a division on knots that were not looked at
-- before, whose step says all (`step_of_cell`), else none.
use Rattle.query_answer.proofs.Cells.{step_of_cell}
use Rattle.query_answer.proofs.ways.knots_refused.Goals as goal

pub returns-in-Walked : goal.returns-in-Walked
returns-in-Walked c = rw c.in-Walked.is c.knots_refused.ensures

pub returns-in-Searched : goal.returns-in-Searched
returns-in-Searched c = rw c.in-Searched.is (step_of_cell _ _ c.step_refused.ensures)

pub returns-in-Divided : goal.returns-in-Divided
returns-in-Divided c = rw c.in-Divided.is (step_of_cell _ _ c.step_refused-in-Divided.ensures)
