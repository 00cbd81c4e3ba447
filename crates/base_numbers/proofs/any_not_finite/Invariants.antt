-- The flag says whether a number below the index is refused, and is kept to the last.
use mathlib.Core.Path.{◌≡◌}
use Rattle.rules.specs.Numbers.{at, any}
use Rattle.rules.specs.Refusals.{number_refused}
use Rattle.base_numbers.proofs.any_not_finite.Given as goal

abbrev pub invariant-loop-x : goal.invariant-loop-x
invariant-loop-x l = l.found ≡ any (λ k. number_refused (at l.s k)) l.x-index
