-- All lanes of a walk by four: those below the cursor's lane are solved, and the plan is kept. The measure is the lanes left.
use Prim.Native.Nat.{◌-◌}
use Rattle.tensor_walks.proofs.FourTurns.{Turn}
use Rattle.tensor_walks.proofs.by_four.solve_by_four.Given as goal

abbrev pub invariant-loop-cursor : goal.invariant-loop-cursor
invariant-loop-cursor l = Turn l.initial.w l.w l.x l.condition l.plan l.walk l.to l.step l.cursor

abbrev pub decreases-loop-cursor : goal.decreases-loop-cursor
decreases-loop-cursor l = l.walk.lanes - l.cursor.lane
