-- The axes below `i` have their cells, their weights and what they refuse, those from `i` on have cell 0, and `begin` is the sum of
-- the points below `i`, so every part lent lies within the knots.
use Rattle.query_answer.proofs.Finding.{Turn}
use Rattle.query_answer.proofs.searched.search_on_axes.Given as goal

abbrev pub invariant-loop-i : goal.invariant-loop-i
invariant-loop-i l = Turn l.way l.axes l.points l.modes l.knots l.coordinates l.lower l.weights
    (record { coordinates = l.coordinates_refused; knots = l.knots_refused; outside = l.outside }) l.begin l.i
