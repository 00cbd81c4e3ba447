-- `sum` is the points of the axes below `j`, at most 256 for each and so 1024 in the end.
use mathlib.Core.Path.{◌≡◌}
use Prim.Native.Nat.{◌*◌, ◌≤◌}
use Rattle.rules.specs.Sizes.{sum_below}
use Rattle.grid.specs.GridOfCall.{points_of}
use Rattle.grid.proofs.knots_before.Given as goal

abbrev pub invariant-loop-j : goal.invariant-loop-j
invariant-loop-j l = (l.sum ≡ sum_below (points_of l.all) l.j) × (l.sum ≤ l.j * 256)
