-- The chapter Locate of docs/RULES.md: the cell of a point among n + 1 knots.
use Rattle.std.specs.Prelude.{true, false, cond, List, ℕ, zero, suc, ◌-◌, Float}
use Rattle.std.specs.Float.Ieee.{lt, le}
use Rattle.rules.specs.Numbers.{at}

-- the first of the knots k, k + 1, .. that is at or above the point; the one d further on where none before it is
unfoldable pub first_at_or_above : List Float → Float → ℕ → ℕ → ℕ
first_at_or_above x p zero k = k
first_at_or_above x p (suc d) k = elim (le p (at x k)) [ true ↦ k | false ↦ first_at_or_above x p d (suc k) ]

-- the cell of a point: beyond the knots the outermost, and on a knot the one that ends there, if one does
unfoldable pub locate : List Float → ℕ → Float → ℕ
unfolding first_at_or_above
locate x n p =
    cond (lt p (at x 0)) 0
    (cond (le (at x n) p) (n - 1)
    (first_at_or_above x p n 0 - 1))
