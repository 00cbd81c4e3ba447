-- Refusal 9 of a grid: each axis below `i` has points enough for its condition. The measure is the axes left.
use Prim.Native.Nat.{◌≤◌}
use mathlib.Core.Path.{◌≡◌}
use mathlib.Core.Bool.{false}
use Rattle.rules.specs.Numbers.{any}
use Rattle.rules.specs.Refusals.{fewness_refused}
use Rattle.grid.specs.GridOfCall.{points_of, condition_of}
use Rattle.grid_checks.proofs.ends.some_fewness_refused.Given as goal

abbrev pub invariant-loop-i : goal.invariant-loop-i
invariant-loop-i l = (l.i ≤ l.axes) × (any (λ j. fewness_refused (condition_of l.all j) (points_of l.all j)) l.i ≡ false)
