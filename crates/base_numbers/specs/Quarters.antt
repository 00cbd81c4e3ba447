-- Four numbers told by one: the numbers of the four quarters of a list at one place.
use Rattle.std.specs.Prelude.{List, ℕ, ◌+◌, ◌*◌, Float}
use Rattle.rules.specs.Numbers.{◌⊖◌, at}

-- the difference of two differences: finite only where all four numbers are
abbrev pub difference_of_four : List Float → ℕ → ℕ → Float
difference_of_four s quarter k = at s k ⊖ at s (quarter + k) ⊖ (at s (2 * quarter + k) ⊖ at s (3 * quarter + k))
