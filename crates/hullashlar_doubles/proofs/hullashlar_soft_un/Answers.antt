-- Whether a is unordered with b, as a number.
use Rattle.hullashlar_doubles.proofs.Truths.{as_one, as_none}
use Rattle.hullashlar_doubles.proofs.hullashlar_soft_un.Goals as goal

pub returns-then-unordered : goal.returns-then-unordered
returns-then-unordered c = record { answer = as_one _ _ c.unordered.ensures c.if-unordered.true }

pub returns-else-unordered : goal.returns-else-unordered
returns-else-unordered c = record { answer = as_none _ _ c.unordered.ensures c.if-unordered.false }
