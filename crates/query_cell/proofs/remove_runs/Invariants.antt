-- The runs of a cell's first axis, one a turn: those below `run` are blended and the others untouched.
use Rattle.query_cell.proofs.Removing.{Turn}
use Rattle.query_cell.proofs.remove_runs.Given as goal

abbrev pub invariant-loop-run : goal.invariant-loop-run
invariant-loop-run l = Turn l.initial.cell l.axes l.spots l.tensor l.weights l.masks l.cell l.run
