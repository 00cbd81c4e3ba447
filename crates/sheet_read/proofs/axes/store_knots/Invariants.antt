-- The knots of the axes below the counter stand in the first `from` places, behind them the buffer is as it was lent, and `at` is the bit
-- where the next begins.
use Rattle.sheet_read.proofs.Stores.{Turn}
use Rattle.sheet_read.proofs.axes.store_knots.Given as goal

abbrev pub invariant-loop : goal.invariant-loop
invariant-loop l = Turn l.bytes l.axes l.initial.knots l.knots l.at l.from l.counter
