-- The flag says whether a difference of four below `i` is refused, and is kept to the end.
use mathlib.Core.Path.{◌≡◌}
use Rattle.rules.specs.Numbers.{any}
use Rattle.rules.specs.Refusals.{number_refused}
use Rattle.base_numbers.specs.Quarters.{difference_of_four}
use Rattle.base_numbers.proofs.any_difference_not_finite.Given as goal

abbrev pub invariant-loop-i : goal.invariant-loop-i
invariant-loop-i l = l.found ≡ any (λ k. number_refused (difference_of_four l.s l.quarter k)) l.i
