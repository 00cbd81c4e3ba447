-- The flag says whether a knot below `i` fails to lie below the next: one comparison a turn. The measure is the knots left.
use Prim.Native.Nat.{◌≤◌, ◌-◌}
use mathlib.Core.Path.{◌≡◌}
use lib.ListN.{length}
use Rattle.rules.specs.Numbers.{any}
use Rattle.grid_checks.specs.Rising.{not_rising}
use Rattle.grid_checks.proofs.rising.some_knot_not_rising.Given as goal

abbrev pub invariant-loop-i : goal.invariant-loop-i
invariant-loop-i l = (l.i ≤ length l.knots - 1) × (l.found ≡ any (not_rising l.knots) l.i)
