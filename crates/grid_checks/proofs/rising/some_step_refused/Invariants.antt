-- The flag says whether a step below `i` is refused by 8; each turn adds the step from knot `i` to the next. The measure is the
-- knots left.
use Prim.Native.Nat.{◌≤◌, ◌-◌}
use mathlib.Core.Path.{◌≡◌}
use lib.ListN.{length}
use Rattle.rules.specs.Numbers.{any}
use Rattle.rules.specs.Refusals.{step_refused}
use Rattle.grid_checks.proofs.rising.some_step_refused.Given as goal

abbrev pub invariant-loop-i : goal.invariant-loop-i
invariant-loop-i l = (l.i ≤ length l.knots - 1) × (l.refused ≡ any (step_refused l.knots) l.i)
