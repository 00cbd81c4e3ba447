-- No number below `i` is refused: at the start this is required of those in front, and the first that is refused answers.
use mathlib.Core.Path.{◌≡◌}
use mathlib.Core.Bool.{false}
use Rattle.rules.specs.Numbers.{at, any}
use Rattle.rules.specs.Refusals.{number_refused}
use Rattle.base_numbers.proofs.any_not_finite_from.Given as goal

abbrev pub invariant-loop-i : goal.invariant-loop-i
invariant-loop-i l = any (λ k. number_refused (at l.s k)) l.i ≡ false
