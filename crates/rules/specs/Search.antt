-- The chapter Search of docs/RULES.md: the search of the Rust's `locate_lower_index`, for any knots at all.
use Rattle.std.specs.Prelude.{cond, ◌&&◌, List, [], ◌∷◌, ℕ, zero, suc, ◌+◌, ◌-◌, ◌/◌, min, ltb, length, Float}
use Rattle.std.specs.Float.Ieee.{lt, le}
use Rattle.rules.specs.Numbers.{at}

-- halfway between low and high, rounded down
abbrev pub middle : ℕ → ℕ → ℕ
middle low high = low + (high - low) / 2

-- where the search between low and high ends, after as many halvings at most
unfoldable pub halving : List Float → Float → ℕ → ℕ → ℕ → ℕ
halving knots point zero low high = low
halving knots point (suc halvings) low high =
    cond (ltb low high)
    (cond (le point (at knots (middle low high)))
    (halving knots point halvings low (middle low high))
    (halving knots point halvings (middle low high + 1) high))
    low

-- as many halvings as 256 knots can take
abbrev pub most_halvings : ℕ
most_halvings = 8

-- one back from where the search ended, where that knot is at or above the point
unfoldable pub one_back : List Float → Float → ℕ → ℕ
one_back knots point low = cond (ltb 0 low && le point (at knots low)) (low - 1) low

-- what the Rust answers: the last knot, past the last cell, where the point or that knot is a NaN
unfoldable pub rust_index : List Float → Float → ℕ
unfolding halving one_back
rust_index knots point =
    cond (lt point (at knots 0)) 0
    (cond (le (at knots (length knots - 1)) point) (length knots - 2)
    (one_back knots point (halving knots point most_halvings 0 (length knots - 1))))

-- an index, and that of the last cell where it would be greater
abbrev pub held : ℕ → ℕ → ℕ
held index points = min index (points - 2)

-- the cell: the Rust's index, so held
unfoldable pub lower_index : List Float → Float → ℕ
unfolding rust_index
lower_index knots point = held (rust_index knots point) (length knots)

-- the knots that the halvings between low and high look at, by the recursion of the search itself
unfoldable pub middles : List Float → Float → ℕ → ℕ → ℕ → List ℕ
middles knots point zero low high = []
middles knots point (suc halvings) low high =
    cond (ltb low high)
    (middle low high ∷ cond (le point (at knots (middle low high)))
    (middles knots point halvings low (middle low high))
    (middles knots point halvings (middle low high + 1) high))
    []

-- all knots that matter to a cell: the first, the last, the two of the cell, and those that the halvings look at
unfoldable pub visited : List Float → Float → List ℕ
unfolding lower_index middles
visited knots point =
    0 ∷ (length knots - 1) ∷ lower_index knots point ∷ (lower_index knots point + 1)
    ∷ cond (lt point (at knots 0)) []
    (cond (le (at knots (length knots - 1)) point) []
    (middles knots point most_halvings 0 (length knots - 1)))
