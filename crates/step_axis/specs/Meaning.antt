-- The chapter Meaning of docs/RULES.md: what the index of a step and the location of a point say, among n knots that were accepted.
use Rattle.std.specs.Prelude.{◌≡◌, true, false, List, ℕ, ◌+◌, ◌-◌, ◌<◌, Float}
use Rattle.std.specs.Float.Ieee.{lt, le, eq}
use Rattle.rules.specs.Numbers.{◌⊖◌, ◌⊘◌, at}
use Rattle.rules.specs.declared.AxisLocation.{AxisLocation}
use Rattle.rules.specs.declared.AxisLocation.TheVariants.{Exact, Between}

module _ (x : List Float) (n : ℕ) (point : Float) where
  -- the point lies below the first knot, or above the last
  abbrev pub below_all : Type 0
  below_all = lt point (at x 0) ≡ true

  abbrev pub above_all : Type 0
  above_all = lt (at x (n - 1)) point ≡ true

  -- it does not
  abbrev pub not_below_all : Type 0
  not_below_all = lt point (at x 0) ≡ false

  abbrev pub not_above_all : Type 0
  not_above_all = lt (at x (n - 1)) point ≡ false

  -- knot k is the last at or below the point
  pub record LastAtOrBelow (k : ℕ) : Type 0 where
    pub among : k < n
    pub at_or_below : le (at x k) point ≡ true
    pub later : (j : ℕ) → k < j → j < n → le (at x j) point ≡ false

  -- knot k is the first at or above the point
  pub record FirstAtOrAbove (k : ℕ) : Type 0 where
    pub among : k < n
    pub at_or_above : le point (at x k) ≡ true
    pub earlier : (j : ℕ) → j < k → le point (at x j) ≡ false

  -- index k of a step downward: the last of the knots at or below the point, and 0 where there is none; but above all knots the last but
  -- one
  pub record Downward (k : ℕ) : Type 0 where
    pub last : not_above_all → (j : ℕ) → j < n → le (at x j) point ≡ true → LastAtOrBelow k
    pub none : not_above_all → ((j : ℕ) → j < n → le (at x j) point ≡ false) → k ≡ 0
    pub corner : above_all → k ≡ n - 2

  -- index k of a step upward: the first knot at or above the point, and the last knot where there is none; but below all knots 1
  pub record Upward (k : ℕ) : Type 0 where
    pub first : not_below_all → (j : ℕ) → j < n → le point (at x j) ≡ true → FirstAtOrAbove k
    pub none : not_below_all → ((j : ℕ) → j < n → le point (at x j) ≡ false) → k ≡ n - 1
    pub corner : below_all → k ≡ 1

  -- the point equals knot k
  pub record OnKnot (k : ℕ) : Type 0 where
    pub among : k < n
    pub equal : eq (at x k) point ≡ true

  -- the point equals no knot; the lower knot of its cell lies below it, unless all do not, and the upper one above it, unless all do not
  pub record BetweenKnots (lower : ℕ) (frac : Float) : Type 0 where
    pub cell : lower + 1 < n
    pub no_knot : (k : ℕ) → k < n → eq (at x k) point ≡ false
    pub lower_below : not_below_all → lt (at x lower) point ≡ true
    pub upper_above : not_above_all → lt point (at x (lower + 1)) ≡ true
    pub fraction : frac ≡ (point ⊖ at x lower) ⊘ (at x (lower + 1) ⊖ at x lower)

  -- what a location says
  abbrev pub Says : AxisLocation → Type 0
  Says (Exact k) = OnKnot k
  Says (Between lower frac) = BetweenKnots lower frac
