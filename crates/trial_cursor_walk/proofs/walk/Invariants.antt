-- `walk` meets its contract, which says nothing but that it ends: the measure is what is left of the curve.
use Prim.Native.Nat.{◌+◌, ◌-◌, ◌≤◌}
use Rattle.device_cursor.specs.DeviceCurve.{last_cursor}
use Rattle.trial_cursor_walk.proofs.walk.Given as goal

abbrev pub invariant-calls : goal.invariant-calls
invariant-calls l = l.cursor.n ≤ last_cursor l.curve + 1

abbrev pub decreases-calls : goal.decreases-calls
decreases-calls l = last_cursor l.curve + 1 - l.cursor.n
