-- The walk over the axes in use: no axis below `i` has kinds that 13 refuses, and the first that has ends it with true.
use mathlib.Core.Path.{◌≡◌}
use mathlib.Core.Bool.{false}
use Rattle.rules.specs.Numbers.{any}
use Rattle.grid_codes.specs.Kinds.{kinds_refused}
use Rattle.c_axes.specs.Axes.{lower_kind, upper_kind}
use Rattle.c_axes.proofs.some_kinds_refused.Given as goal

abbrev pub invariant-loop-i : goal.invariant-loop-i
invariant-loop-i l = any (λ k. kinds_refused (lower_kind l.kinds k) (upper_kind l.kinds k)) l.i ≡ false
