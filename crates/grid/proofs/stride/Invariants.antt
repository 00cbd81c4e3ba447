-- `step` is the stride of `axis` on the axes below `j`, of which `axis` is one; it never passes 4096 (`stride_fits`).
use mathlib.Core.Path.{◌≡◌}
use Rattle.grid.specs.Strides.{stride}
use Rattle.grid.specs.GridOfCall.{points_of}
use Rattle.grid.proofs.stride.Given as goal

abbrev pub invariant-loop-j : goal.invariant-loop-j
invariant-loop-j l = l.step ≡ stride (points_of l.all) l.j l.axis
