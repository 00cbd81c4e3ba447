-- What the work of the one-axis calls needs and leaves, once nothing is refused before it.
use Rattle.std.specs.Prelude.{◌≡◌, Bool, cond, List, ℕ, ◌-◌, length, Float}
use Rattle.rules.specs.Numbers.{zeros}
use Rattle.rules.specs.Refusals.{outcome_refused}
use Rattle.rules.specs.Moments.{moments}
use Rattle.rules.specs.Curve.{knot_slopes}
use Rattle.rules.specs.Calls.{stored}
use Rattle.rules.specs.declared.Condition.{Condition}

-- the number that the outcome gives: 10 where it is refused
abbrev pub outcome_number : List Float → ℕ
outcome_number outcome = cond (outcome_refused outcome) 10 0

-- the moments worked out, and stored where all are finite
pub record MomentsWorked (x y : List Float) (condition : Condition) (moments_out scratch_lent : List Float) (number : ℕ)
    (moments_later scratch_later : List Float) : Type 0 where
  pub answer : number ≡ outcome_number (moments x (length x - 1) condition y)
  pub output : moments_later ≡ stored number moments_out (moments x (length x - 1) condition y)
  pub scratch : scratch_later ≡ zeros (length scratch_lent)

-- the knot slopes worked out, and whether one of them is refused
pub record SlopesWorked (x y m : List Float) (refused : Bool) (row_later : List Float) : Type 0 where
  pub answer : refused ≡ outcome_refused (knot_slopes x (length x - 1) y m)
  pub output : row_later ≡ knot_slopes x (length x - 1) y m
