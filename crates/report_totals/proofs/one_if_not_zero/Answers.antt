-- 0 for the magnitude 0 and 1 for any other: the test of the rules as a number to add.
use borrow.Author.Tests.{eq-eqb, ne_eqb}
use Rattle.report_totals.proofs.one_if_not_zero.Goals as goal

pub returns-then-size-eq0 : goal.returns-then-size-eq0
returns-then-size-eq0 c = rw (eq-eqb _ 0 c.if-size-eq0.true)

pub returns-else-size-eq0 : goal.returns-else-size-eq0
returns-else-size-eq0 c = rw (ne_eqb _ 0 c.if-size-eq0.false)
