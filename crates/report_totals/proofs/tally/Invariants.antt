-- `all` has the masks of the pairs below `pair` counted, each under the order that the number of its ones names.
use Rattle.report_totals.proofs.Masks.{Turn}
use Rattle.report_totals.proofs.tally.Given as goal

abbrev pub invariant-loop-pair : goal.invariant-loop-pair
invariant-loop-pair l = Turn l.initial.all l.axes l.tensor l.places l.all l.pair
