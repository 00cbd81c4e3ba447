-- What holds of each number in a row of tests holds of the number that the row gives.
use mathlib.Core.Bool.{Bool, true, false, cond}
use Prim.Native.Nat.{ℕ, zero, suc}
use Rattle.rules.specs.Calls.{or_else}

module _ (P : ℕ → Type 0) where
  -- a test with its number, and what comes after it
  pub tested : (test : Bool) {number later : ℕ} → P number → P later → P (cond test number later)
  tested true n l = n
  tested false n l = l

  -- a row, and another after it
  pub one_or_other : (first : ℕ) {later : ℕ} → P first → P later → P (or_else first later)
  one_or_other zero f l = l
  one_or_other (suc first) f l = f
