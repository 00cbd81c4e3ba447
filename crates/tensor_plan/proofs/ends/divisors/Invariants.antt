-- Once the pair in hand is stored at knot `k`, the knots from `low` to `k` have theirs in `DIVISORS` and `HELPERS`, each by the pair
-- before it and the steps in front.
use Rattle.tensor_plan.proofs.DivisorTurns.{Turn}
use Rattle.tensor_plan.proofs.ends.divisors.Given as goal

abbrev pub invariant-loop-k : goal.invariant-loop-k
invariant-loop-k l = Turn l.initial.w l.w l.low l.last l.initial.d l.initial.c l.d l.c l.k
