-- The interior rows, one a turn: those below `j` are the rules', and step and slope before row `j`'s knot are at hand.
use Rattle.axis_rows.specs.Rows.{samples_in}
use Rattle.axis_rows.proofs.Interior.{Turn}
use Rattle.axis_rows.proofs.interior_rows.Given as goal

abbrev pub invariant-loop-j : goal.invariant-loop-j
invariant-loop-j l = Turn l.initial.w l.w l.x (samples_in l.initial.w l.x) l.start l.stop l.h l.s l.j
