-- The chapter Even of docs/RULES.md: axes whose steps are equal within a tolerance, and the cell of a point there by one division.
use Rattle.std.specs.Prelude.{Bool, true, false, cond, List, ℕ, zero, suc, ◌-◌, ◌*◌, ◌/◌, min, ltb, Float}
use Rattle.std.specs.Float.Ieee as Ieee
use Rattle.std.specs.Float.{nan, inf, fin, binary64}
use Rattle.std.specs.Float.Ieee.{up, down, lt}
use Rattle.rules.specs.Numbers.{◌⊕◌, ◌⊖◌, ◌⊗◌, ◌⊘◌, plus_zero, at, any}
use Rattle.rules.specs.Sizes.{Grid, points, knots, Place}
use Rattle.rules.specs.Steps.{h}

-- ---- which axes are even: the Rust's `validate_uniform_grid_epsilon` with its default tolerance

-- a number without its sign
unfoldable pub absolute : Float → Float
absolute nan = nan
absolute (inf s) = inf false
absolute (fin s m e) = fin false m e

-- 2 to the -52
abbrev pub epsilon : Float
epsilon = Ieee.of_bits binary64 0x3CB0_0000_0000_0000

-- a number added to itself, so many times over
unfoldable pub doubled : ℕ → Float → Float
doubled zero v = v
doubled (suc times) v = doubled times (v ⊕ v)

-- how far a step may lie from the first: epsilon is doubled before the product
unfoldable pub tolerance : Float → Float
unfolding absolute doubled
tolerance step = absolute step ⊗ doubled 10 epsilon

-- the larger of two steps minus the smaller
unfoldable pub apart : Float → Float → Float
apart spacing step = cond (lt step spacing) (spacing ⊖ step) (step ⊖ spacing)

-- interval i is too far from interval 0
unfoldable pub fails : List Float → ℕ → Bool
unfolding tolerance apart h
fails x i = lt (tolerance (h x 0)) (apart (h x i) (h x 0))

-- the first of the d numbers from k on of which a test holds, and 0 where there is none
unfoldable pub first_that : (ℕ → Bool) → ℕ → ℕ → ℕ
first_that test zero k = 0
first_that test (suc d) k = elim (test k) [ true ↦ k | false ↦ first_that test d (suc k) ]

-- of n knots the first interval, from 1 on, that fails, and 0 where none does
unfoldable pub first_failing : List Float → ℕ → ℕ
unfolding fails first_that
first_failing x n = first_that (fails x) (n - 2) 1

-- 21 of an axis of n points: one of its intervals fails
abbrev pub uneven_refused : List Float → ℕ → Bool
uneven_refused x n = ltb 0 (first_failing x n)

-- 21 of a grid: so for an axis in use
abbrev pub some_uneven_refused : Grid → Bool
some_uneven_refused g = any (λ i. uneven_refused (knots g i) (points g i)) g.axes

-- the lowest axis in use that is not even, and 0 where each is
unfoldable pub uneven_axis : Grid → ℕ
unfolding first_failing first_that
uneven_axis g = first_that (λ i. uneven_refused (knots g i) (points g i)) g.axes 0

-- its first interval that fails, and 0 where each axis is even
unfoldable pub uneven_interval : Grid → ℕ
unfolding first_failing uneven_axis
uneven_interval g = first_failing (knots g (uneven_axis g)) (points g (uneven_axis g))

-- ---- the cell: the Rust's `locate_lower_index_uniform`

-- 2 to the 64: the least whole number that no `usize` holds
abbrev pub first_too_large : Float
first_too_large = Ieee.of_bits binary64 0x43F0_0000_0000_0000

-- a number that is not below zero without its fraction
unfoldable pub whole_part : Float → ℕ
whole_part nan = 0
whole_part (inf s) = 0
whole_part (fin s m e) = m * up e / down e

-- the same as a `usize`: 0 where none holds it, so of 2 to the 64 and on, an infinity or NaN
unfoldable pub as_index : Float → ℕ
unfolding whole_part
as_index t = cond (lt t first_too_large) (whole_part t) 0

-- the cell of a point by the first knot, the step and the points of its axis: on knot k it is k or k - 1, as the quotient is rounded
unfoldable pub direct_cell : Float → Float → ℕ → Float → ℕ
unfolding as_index
direct_cell first step points p =
    let t : Float = (p ⊖ first) ⊘ step in
    cond (lt t plus_zero) 0 (min (as_index t) (points - 2))

-- the cell of a point so found: the lower knot on each axis
unfoldable pub direct_cell_of : Grid → (ℕ → Float) → Place
unfolding direct_cell h
direct_cell_of g point i = direct_cell (at (knots g i) 0) (h (knots g i) 0) (points g i) (point i)
