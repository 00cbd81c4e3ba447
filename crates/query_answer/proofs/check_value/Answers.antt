-- A finite value is answered with its cell as labels, and any other by 10 with nothing but zeros beside it.
use mathlib.Core.Path.{◌∙◌}
use Rattle.query_answer.proofs.Answering.{accepted, not_accepted}
use Rattle.query_answer.proofs.check_value.Goals as goal

pub returns-then-is_finite : goal.returns-then-is_finite
returns-then-is_finite c = accepted _ _ c.is_finite.ensures c.if-is_finite.true

pub returns-else-is_finite : goal.returns-else-is_finite
returns-else-is_finite c =
    c.refuse.ensures
    ∙ not_accepted c.args.value c.args.labels.now c.is_finite.ensures c.if-is_finite.false
