-- The plan of a periodic axis: divisors and first helper row without the corners, and z, the second solve. The last row is l, points minus
-- 2.
use Rattle.std.specs.Prelude.{◌≡◌, List, ℕ, ◌+◌, ◌-◌, ◌<◌, ◌≤◌, length, Float}
use Rattle.rules.specs.Numbers.{at, ◌⊕◌, ◌⊖◌, ◌⊗◌, ◌⊘◌, plus_zero, one}
use Rattle.rules.specs.Sizes.{scratch_of_rows}
use Rattle.rules.specs.Steps.{h}
use Rattle.rules.specs.Solve as Solve
use Rattle.rules.specs.Solve.{cp, gamma, diag_mod}
use Rattle.rules.specs.Moments.{periodic_diag, periodic_rhs}
use Rattle.grid_scratch.specs.Layout.{plan_row_length, divisors_row, helpers_row, second_row, plan_end, row, Outside}
use Rattle.tensor_plan.specs.declared.CyclePlan.{CyclePlan}

-- what the rules define of a cyclic solve, for the rows of a periodic axis
abbrev pub of_cycle : {A : Type 0} → ((ℕ → Float) → (ℕ → Float) → (ℕ → Float) → (ℕ → Float) → Float → A) → List Float → List Float → ℕ → A
of_cycle f x y n = f (h x) (periodic_diag x y n) (h x) (periodic_rhs x y n) (h x (n - 1))

-- and of the solve without corners that it is made of
abbrev pub of_open : {A : Type 0} → ((ℕ → Float) → (ℕ → Float) → (ℕ → Float) → (ℕ → Float) → A) → List Float → List Float → ℕ → A
of_open f x y n = f (h x) (of_cycle diag_mod x y n (n - 1)) (h x) (periodic_rhs x y n)

-- the second helper row of z before row `stop`
pub record SecondForth (w w' : List Float) (stop : ℕ) (z : Float) : Type 0 where
  pub same_length : length w' ≡ length w
  pub first : at w' second_row ≡ z
  pub next : (k : ℕ) → k + 1 < stop → row w' second_row (k + 1) ≡ (plus_zero ⊖ at w k ⊗ row w' second_row k) ⊘ row w divisors_row (k + 1)
  pub kept : (j : ℕ) → Outside second_row plan_row_length j → at w' j ≡ at w j

-- z over it, from row `from` down to row `low`
pub record SecondBack (w w' : List Float) (low from : ℕ) : Type 0 where
  pub same_length : length w' ≡ length w
  pub top : row w' second_row from ≡ row w second_row from
  pub next : (k : ℕ) → low ≤ k → k < from → row w' second_row k ≡ row w second_row k ⊖ row w helpers_row k ⊗ row w' second_row (k + 1)
  pub below : (k : ℕ) → k < low → row w' second_row k ≡ row w second_row k
  pub kept : (j : ℕ) → Outside second_row plan_row_length j → at w' j ≡ at w j

-- the plan stands in its rows, the same for every y; `ratio` and `rest` are the parts of the factor that have no sample in them
pub record CyclePlanned (w x : List Float) (ratio rest : Float) : Type 0 where
  pub steps : (k : ℕ) → k + 1 < length x → at w k ≡ h x k
  pub divisors : (y : List Float) (k : ℕ) → k ≤ length x - 1 - 1 → row w divisors_row k ≡ of_open Solve.w x y (length x - 1) k
  pub helpers : (y : List Float) (k : ℕ) → k < length x - 1 - 1 → row w helpers_row k ≡ of_open cp x y (length x - 1) k
  pub second : (y : List Float) (k : ℕ) → k ≤ length x - 1 - 1
      → row w second_row k ≡ of_cycle Solve.z x y (length x - 1) (length x - 1 - 1) k
  pub ratio_is : (y : List Float) → ratio ≡ h x (length x - 1 - 1) ⊘ of_cycle gamma x y (length x - 1)
  pub rest_is : (y : List Float)
      → rest ≡ one ⊕ (of_cycle Solve.z x y (length x - 1) (length x - 1 - 1) 0
      ⊕ h x (length x - 1 - 1) ⊘ of_cycle gamma x y (length x - 1) ⊗ of_cycle Solve.z x y (length x - 1) (length x - 1 - 1)
      (length x - 1 - 1))

-- what is asked for
pub record CycleGiven (w x : List Float) : Type 0 where
  pub room : scratch_of_rows ≤ length w
  pub few : length x ≤ plan_row_length
  pub enough : 3 ≤ length x

-- and what there is then
pub record CyclePlanMade (w w' x : List Float) (plan : CyclePlan) : Type 0 where
  pub same_length : length w' ≡ length w
  pub planned : CyclePlanned w' x plan.ratio plan.rest
  pub kept : (j : ℕ) → plan_end ≤ j → at w' j ≡ at w j
