-- The plan under two ends: steps, divisors and first helper row, each number at its knot. No sample enters it, nor the number of an end.
use Rattle.std.specs.Prelude.{◌≡◌, List, ℕ, ◌+◌, ◌-◌, ◌<◌, ◌≤◌, length, Float}
use Rattle.rules.specs.Numbers.{at, ◌⊕◌, ◌⊖◌, ◌⊗◌, ◌⊘◌, two}
use Rattle.rules.specs.Ends.{dropped}
use Rattle.rules.specs.Sizes.{scratch_of_rows}
use Rattle.rules.specs.Steps.{h}
use Rattle.rules.specs.Solve as Solve
use Rattle.rules.specs.Solve.{cp}
use Rattle.rules.specs.Moments.{upper_row, sub, diag, sup, rhs, last_row}
use Rattle.rules.specs.declared.End.{End}
use Rattle.grid_scratch.specs.Layout.{plan_row_length, plan_rows, divisors_row, helpers_row, second_row, row, Outside}
use Rattle.tensor_plan.specs.declared.EndsPlan.{EndsPlan}

-- what the rules define of a solve, for the rows of two ends
abbrev pub of_ends : {A : Type 0} → ((ℕ → Float) → (ℕ → Float) → (ℕ → Float) → (ℕ → Float) → A) → List Float → List Float → ℕ → End → End
    → A
of_ends f x y n lower upper = f (sub x y n lower upper) (diag x y n lower upper) (sup x y n lower upper) (rhs x y n lower upper)

-- a whole scratch, and a knot n that a row of a plan has room for
pub record Room (w : List Float) (n : ℕ) : Type 0 where
  pub room : scratch_of_rows ≤ length w
  pub few : n < plan_row_length

-- the steps are in front
pub record Stepped (w w' x : List Float) : Type 0 where
  pub same_length : length w' ≡ length w
  pub steps : (k : ℕ) → k + 1 < length x → at w' k ≡ h x k
  pub kept : (j : ℕ) → divisors_row ≤ j → at w' j ≡ at w j

-- divisors and helpers from knot low to knot last - 1: given at low, and from there each by the one before and the steps in front
pub record Divided (w w' : List Float) (low last : ℕ) (divisor helper : Float) : Type 0 where
  pub same_length : length w' ≡ length w
  pub first_divisor : row w' divisors_row low ≡ divisor
  pub first_helper : row w' helpers_row low ≡ helper
  pub next_divisor : (k : ℕ) → k + 1 < last → low ≤ k
      → row w' divisors_row (k + 1) ≡ two ⊗ (at w k ⊕ at w (k + 1)) ⊖ at w k ⊗ row w' helpers_row k
  pub next_helper : (k : ℕ) → k + 1 < last → low ≤ k → row w' helpers_row (k + 1) ≡ at w (k + 1) ⊘ row w' divisors_row (k + 1)
  pub kept : (j : ℕ) → Outside divisors_row (plan_rows 2) j → at w' j ≡ at w j

-- the plan stands in its rows: row j of the solve at knot (dropped lower) + j, the same for every y
pub record EndsPlanned (w x : List Float) (lower upper : End) (plan : EndsPlan) : Type 0 where
  pub low_is : plan.low ≡ dropped lower
  pub last_is : plan.last ≡ length x - 1 - dropped upper
  pub sub_is : (y : List Float) → plan.sub ≡ (upper_row x y (length x - 1) upper).neighbour
  pub steps : (k : ℕ) → k + 1 < length x → at w k ≡ h x k
  pub divisors : (y : List Float) (j : ℕ) → j ≤ last_row x y (length x - 1) lower upper
      → row w divisors_row (dropped lower + j) ≡ of_ends Solve.w x y (length x - 1) lower upper j
  pub helpers : (y : List Float) (j : ℕ) → j < last_row x y (length x - 1) lower upper
      → row w helpers_row (dropped lower + j) ≡ of_ends cp x y (length x - 1) lower upper j

-- what is asked for
pub record EndsGiven (w x : List Float) (lower upper : End) : Type 0 where
  pub room : scratch_of_rows ≤ length w
  pub few : length x ≤ plan_row_length
  pub enough : 2 + dropped lower + dropped upper ≤ length x

-- and what there is then
pub record EndsPlanMade (w w' x : List Float) (lower upper : End) (plan : EndsPlan) : Type 0 where
  pub same_length : length w' ≡ length w
  pub planned : EndsPlanned w' x lower upper plan
  pub kept : (j : ℕ) → second_row ≤ j → at w' j ≡ at w j
