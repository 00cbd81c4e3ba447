-- The working tensor before the passes of a change, and what is done with it after the passes.
use Rattle.std.specs.Prelude.{◌≡◌, ◌≢◌, cond, List, ℕ, ◌<◌, length, take, drop, Float}
use Rattle.rules.specs.Numbers.{at, zeros}
use Rattle.rules.specs.Refusals.{outcome_refused}
use Rattle.rules.specs.Calls.{stored}
use Rattle.grid_scratch.specs.Layout.{tensor_begin, row}

-- a tensor copied to the scratch, with one number of it new
pub record Loaded (w w' tensor : List Float) (spot : ℕ) (number : Float) : Type 0 where
  pub same_length : length w' ≡ length w
  pub new : row w' tensor_begin spot ≡ number
  pub copied : (e : ℕ) → e < length tensor → e ≢ spot → row w' tensor_begin e ≡ at tensor e

-- what came out: a tensor as long as the one that was lent
abbrev pub outcome_in : List Float → List Float → List Float
outcome_in w tensor = take (length tensor) (drop tensor_begin w)

-- 10 where a number of it is not finite, and the tensor as it was; else what came out
pub record Finished (tensor w : List Float) (refusal : ℕ) (tensor' w' : List Float) : Type 0 where
  pub answer : refusal ≡ cond (outcome_refused (outcome_in w tensor)) 10 0
  pub output : tensor' ≡ stored refusal tensor (outcome_in w tensor)
  pub cleared : w' ≡ zeros (length w)
