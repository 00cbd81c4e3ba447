-- The first of 7, 8 and 18 that was found, if any: where the knots refuse, what `knots_refusal` says.
use Rattle.query_answer.proofs.check_found.Goals as goal

pub returns-then-refusals-2 : goal.returns-then-refusals-2
returns-then-refusals-2 c = rw (c.if-refusals.false, c.if-refusals-2.true) c.knots_refusal.ensures
