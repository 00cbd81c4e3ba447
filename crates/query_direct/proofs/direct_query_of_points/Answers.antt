-- What a division answers is the direct query's answer as it stands, on any axes with these points and modes: `division_answers`.
use Rattle.query_direct.proofs.Answers.{division_answers}
use Rattle.query_direct.proofs.direct_query_of_points.Goals as goal

pub returns : goal.returns
returns c = λ all are. division_answers _ _ _ _ _ _ c.requires all are _ (c.answer.ensures all are)
