-- Refused knots are 8 by every way, but for a walk they are 7 where one of them is infinite or NaN.
use mathlib.Core.Path.{sym, ◌∙◌}
use Rattle.query_answer.proofs.knots_refusal.Goals as goal

pub returns-then-any_not_finite : goal.returns-then-any_not_finite
returns-then-any_not_finite c = rw (c.in-Walked.is, sym c.any_not_finite.ensures ∙ c.if-any_not_finite.true)

pub returns-else-any_not_finite : goal.returns-else-any_not_finite
returns-else-any_not_finite c = rw (c.in-Walked.is, sym c.any_not_finite.ensures ∙ c.if-any_not_finite.false)
