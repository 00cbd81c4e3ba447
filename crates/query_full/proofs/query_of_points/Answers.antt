-- By `walk_answers` the walk's answer is the query's: on finite knots that rise its cells are those of the rules, others it refuses.
use Rattle.query_full.proofs.Answers.{walk_answers}
use Rattle.query_full.proofs.query_of_points.Goals as goal

pub returns : goal.returns
returns c = λ all are. walk_answers _ _ _ _ _ _ c.requires all are _ (c.answer.ensures all are)
