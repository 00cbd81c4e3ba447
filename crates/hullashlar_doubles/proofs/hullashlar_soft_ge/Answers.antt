-- Whether a is at least b, as a number.
use Rattle.hullashlar_doubles.proofs.Truths.{as_one, as_none}
use Rattle.hullashlar_doubles.proofs.hullashlar_soft_ge.Goals as goal

pub returns-then-at_most : goal.returns-then-at_most
returns-then-at_most c = record { answer = as_one _ _ c.at_most.ensures c.if-at_most.true }

pub returns-else-at_most : goal.returns-else-at_most
returns-else-at_most c = record { answer = as_none _ _ c.at_most.ensures c.if-at_most.false }
