-- `sum` is how many ends of the axes below `i` have a number, and at most twice `i`, so 8 in the end.
use mathlib.Core.Path.{◌≡◌}
use Prim.Native.Nat.{◌*◌, ◌≤◌}
use Rattle.sheet_write.specs.PartsWithRoom.{values_below}
use Rattle.sheet_write.proofs.counts.all_values.Given as goal

abbrev pub invariant-loop-i : goal.invariant-loop-i
invariant-loop-i l = (l.sum ≡ values_below l.all l.i) × (l.sum ≤ l.i * 2)
