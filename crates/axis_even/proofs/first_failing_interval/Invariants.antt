-- The first interval that fails, looked for from 1 on, is the first from `i` on: the one found is answered, or 0 where none is.
use Rattle.std.proofs.Common.{◌-◌, length}
use Rattle.rules.specs.Even.{fails}
use Rattle.axis_even.proofs.First.{Turn}
use Rattle.axis_even.proofs.first_failing_interval.Given as goal

abbrev pub invariant-loop-i : goal.invariant-loop-i
invariant-loop-i l = Turn (fails l.knots) 1 (length l.knots - 1) l.i
