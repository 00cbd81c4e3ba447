-- Refusal 6: on every axis below `i` the index lies below the points, and the first axis where it does not answers. The measure is
-- the axes left.
use Prim.Native.Nat.{◌≤◌}
use mathlib.Core.Path.{◌≡◌}
use mathlib.Core.Bool.{false}
use lib.Dec.{leb}
use Rattle.rules.specs.Numbers.{any}
use Rattle.rules.specs.Sizes.{place_of}
use Rattle.grid.specs.GridOfCall.{points_of}
use Rattle.grid_checks.proofs.sizes.place_refused.Given as goal

abbrev pub invariant-loop-i : goal.invariant-loop-i
invariant-loop-i l = (l.i ≤ l.axes) × (any (λ j. leb (points_of l.all j) (place_of l.place j)) l.i ≡ false)
