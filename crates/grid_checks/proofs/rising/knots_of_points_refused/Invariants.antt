-- `start` is how many knots the axes below `i` have, and none of those axes is refused by 8; the part lent is the knots of axis `i`
-- (`part_refused`). The measure is the axes left.
use Prim.Native.Nat.{◌≤◌}
use mathlib.Core.Path.{◌≡◌}
use mathlib.Core.Bool.{false}
use lib.ListN.{take, drop}
use Rattle.rules.specs.Numbers.{any}
use Rattle.rules.specs.Sizes.{place_of, sum_below}
use Rattle.rules.specs.Refusals.{knots_refused}
use Rattle.grid_checks.proofs.rising.knots_of_points_refused.Given as goal

abbrev pub invariant-loop-i : goal.invariant-loop-i
invariant-loop-i l = (l.i ≤ l.axes)
    × (l.start ≡ sum_below (place_of l.points) l.i)
    × (any (λ j. knots_refused (take (place_of l.points j) (drop (sum_below (place_of l.points) j) l.knots)) (place_of l.points j)) l.i ≡ false)
