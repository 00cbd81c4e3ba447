-- What the call gives is told as a pattern: where it does not refuse, the value is that of the query, which is finite.
use Rattle.sheet_surface.proofs.Answers.{pattern_is}
use Rattle.sheet_surface.proofs.RefusalsAreNoAnswers.{given_finite}
use Rattle.sheet_surface.proofs.surface.Goals as goal

pub answer_pattern-requires : goal.answer_pattern-requires
answer_pattern-requires c = given_finite _ _ _ c.value_at.ensures

pub returns : goal.returns
returns c = rw c.answer_pattern.ensures (pattern_is _ _ _ c.value_at.ensures)
