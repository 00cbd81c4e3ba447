-- A number is within a range, below it, or above it.
use mathlib.Core.Path.{◌≡◌}
use mathlib.Core.Bool.{true, false}
use Prim.Native.Nat.{ℕ, ◌<◌, ◌≤◌}
use native.Mathlib.Omega.{arith}
use borrow.Author.Tests.{le-leb, lt-leb}
use Rattle.grid_codes.specs.Ranges.{among}

module _ (first last number : ℕ) where
  pub within : first ≤ number → number ≤ last → among first last number ≡ true
  within low high = rw (le-leb first number low, le-leb number last high)

  pub below : number < first → among first last number ≡ false
  below low = rw (lt-leb first number low)

  pub above : first ≤ last → last < number → among first last number ≡ false
  above some high = rw (le-leb first number (omega arith), lt-leb number last high)
