-- The fields of the axes below `i` are put from bit 7 on, `at` is the bit behind them, and `from` counts their knots.
use Rattle.grid.specs.GridOfCall.{grid}
use Rattle.sheet_write.proofs.Puts.{Turn}
use Rattle.sheet_write.proofs.fields.put_axes.Given as goal

abbrev pub invariant-loop-i : goal.invariant-loop-i
invariant-loop-i l = Turn l.initial.bytes l.width (grid l.axes l.all l.knots) l.bytes l.at l.from l.i
