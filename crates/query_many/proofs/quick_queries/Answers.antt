-- The answer at each point by the search is that of the quick query (`each_quick`).
use Rattle.query_many.proofs.Answered.{each_quick}
use Rattle.query_many.proofs.quick_queries.Goals as goal

pub returns : goal.returns
returns c = c.queries.ensures _ (λ points modes are. each_quick c.args.axes points modes _ _ _ c.args.all are _)
