-- Whether a is equal to b, as a number.
use Rattle.hullashlar_doubles.proofs.Truths.{as_one, as_none}
use Rattle.hullashlar_doubles.proofs.hullashlar_soft_eq.Goals as goal

pub returns-then-equal : goal.returns-then-equal
returns-then-equal c = record { answer = as_one _ _ c.equal.ensures c.if-equal.true }

pub returns-else-equal : goal.returns-else-equal
returns-else-equal c = record { answer = as_none _ _ c.equal.ensures c.if-equal.false }
