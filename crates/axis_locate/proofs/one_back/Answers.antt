-- Back by one where the search ended behind the first knot on one at or above the point, and stays elsewhere.
use Rattle.rules.specs.Search.{one_back}
use borrow.Author.Rules.{rules}
use Rattle.axis_locate.proofs.one_back.Goals as goal

pub returns-then-knots-low : goal.returns-then-knots-low
unfolding one_back
returns-then-knots-low c = search rules

pub returns-else-low-gt0 : goal.returns-else-low-gt0
unfolding one_back
returns-else-low-gt0 c = search rules
