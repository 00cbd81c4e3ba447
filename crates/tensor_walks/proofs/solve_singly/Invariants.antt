-- One lane a turn: those below the cursor's are solved, and no slope stored so far stands on a number of a later lane.
-- The measure is the lanes left.
use Prim.Native.Nat.{◌-◌}
use Rattle.tensor_walks.proofs.WalkTurns.{Turn}
use Rattle.tensor_walks.proofs.solve_singly.Given as goal

abbrev pub invariant-loop-cursor : goal.invariant-loop-cursor
invariant-loop-cursor l = Turn l.initial.w l.w l.x l.condition l.walk l.to l.step l.cursor

abbrev pub decreases-loop-cursor : goal.decreases-loop-cursor
decreases-loop-cursor l = l.walk.lanes - l.cursor.lane
