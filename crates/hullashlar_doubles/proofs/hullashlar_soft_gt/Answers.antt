-- Whether a is greater than b, as a number.
use Rattle.hullashlar_doubles.proofs.Truths.{as_one, as_none}
use Rattle.hullashlar_doubles.proofs.hullashlar_soft_gt.Goals as goal

pub returns-then-less : goal.returns-then-less
returns-then-less c = record { answer = as_one _ _ c.less.ensures c.if-less.true }

pub returns-else-less : goal.returns-else-less
returns-else-less c = record { answer = as_none _ _ c.less.ensures c.if-less.false }
