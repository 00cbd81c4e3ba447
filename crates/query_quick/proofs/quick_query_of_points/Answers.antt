-- What a search answers is the quick query's answer as it stands, on any axes with these points and modes: `search_answers`.
use Rattle.query_quick.proofs.Answers.{search_answers}
use Rattle.query_quick.proofs.quick_query_of_points.Goals as goal

pub returns : goal.returns
returns c = λ all are. search_answers _ _ _ _ _ _ c.requires all are _ (c.answer.ensures all are)
