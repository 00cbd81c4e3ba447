-- The way forth and the way back, put together by `solved`: from `to` on stands the tridiagonal result of the rules.
use Rattle.axis_solve.proofs.Solution.{solved}
use Rattle.axis_solve.proofs.thomas.Goals as goal

pub returns : goal.returns
returns c = solved _ _ _ _ _ _ c.eliminate-last.ensures c.substitute.ensures
