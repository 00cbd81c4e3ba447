-- One axis removed in place: after k turns the numbers below 4 * k are the smaller cell's and those from there on still the old ones, so
-- every pair is read as it was at entry.
use Rattle.query_blend.proofs.Removal.{Turn}
use Rattle.query_blend.proofs.remove_by_fours.Given as goal

abbrev pub invariant-loop-k : goal.invariant-loop-k
invariant-loop-k l = Turn l.initial.cell l.cell l.size l.weights l.k
