-- The flag says whether a cell below `i` is out of range: at first those that come in fours, then one more a turn.
use mathlib.Core.Path.{◌≡◌}
use mathlib.Core.Bool.{not}
use Rattle.device_cursor.specs.DeviceCurve.{all_in_range}
use Rattle.device_cursor.proofs.some_cell_refused.Given as goal

abbrev pub invariant-loop-i : goal.invariant-loop-i
invariant-loop-i l = l.refused ≡ not (all_in_range l.curve l.i)
