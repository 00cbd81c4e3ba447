-- The part of refusal 8 that looks at no step: a knot that is not below the next.
use Rattle.std.specs.Prelude.{Bool, not, List, ℕ, ◌+◌, Float}
use Rattle.std.specs.Float.Ieee.{lt}
use Rattle.rules.specs.Numbers.{at}

abbrev pub not_rising : List Float → ℕ → Bool
not_rising x k = not (lt (at x k) (at x (k + 1)))
