-- Another quotient than the count is another length; with this one the remainder tells (`same_quotient`).
use Rattle.many_points.proofs.Parts.{other_quotient, same_quotient}
use Rattle.many_points.proofs.lengths.parts_refused.Goals as goal

pub returns-then-given-size : goal.returns-then-given-size
returns-then-given-size c = other_quotient _ _ _ c.requires c.if-given-size.true

pub returns : goal.returns
returns c = same_quotient _ _ _ c.requires c.if-given-size.false
