-- The answer at each point by a division is that of the direct query (`each_direct`).
use Rattle.query_many.proofs.Answered.{each_direct}
use Rattle.query_many.proofs.direct_queries.Goals as goal

pub returns : goal.returns
returns c = c.queries.ensures _ (λ points modes are. each_direct c.args.axes points modes _ _ _ c.args.all are _)
