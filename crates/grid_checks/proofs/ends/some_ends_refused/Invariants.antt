-- No axis below `i` has an end that is refused by 7, and the first that has one answers. The measure is the axes left.
use Prim.Native.Nat.{◌≤◌}
use mathlib.Core.Path.{◌≡◌}
use mathlib.Core.Bool.{false}
use Rattle.rules.specs.Numbers.{any}
use Rattle.rules.specs.Refusals.{ends_refused}
use Rattle.grid.specs.GridOfCall.{condition_of}
use Rattle.grid_checks.proofs.ends.some_ends_refused.Given as goal

abbrev pub invariant-loop-i : goal.invariant-loop-i
invariant-loop-i l = (l.i ≤ l.axes) × (any (λ j. ends_refused (condition_of l.all j)) l.i ≡ false)
