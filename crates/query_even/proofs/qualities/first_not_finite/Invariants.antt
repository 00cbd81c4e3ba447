-- The first knot that is infinite or NaN is looked for from `i` on: the one found is answered, or 0 where none is.
use lib.ListN.{length}
use Rattle.rules.specs.Numbers.{at}
use Rattle.rules.specs.Refusals.{number_refused}
use Rattle.axis_even.proofs.First.{Turn}
use Rattle.query_even.proofs.qualities.first_not_finite.Given as goal

abbrev pub invariant-loop-i : goal.invariant-loop-i
invariant-loop-i l = Turn (λ k. number_refused (at l.knots k)) 0 (length l.knots) l.i
