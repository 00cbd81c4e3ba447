-- A shift by at most 4 loses no bit of 64, so it is the power of two, and 16 at most.
use native.Mathlib.Nat.{one-mul, mod-eq_of_lt, lt_of_le_of_lt, pow-le-pow_right}
use mathlib.Core.Path.{◌≡◌}
use Prim.Native.Nat.{ℕ, ◌*◌, ◌%◌, ◌^◌, ◌≤◌}
use lib.Dec.{lit<}
use Rattle.grid.proofs.masks.Goals as goal

most : (i : ℕ) → i ≤ 4 → 2 ^ i ≤ 16
most i h = pow-le-pow_right (lit< tt) {i = i} {j = 4} h

-- a power of two as the code shifts it
shifted : (i : ℕ) → i ≤ 4 → 1 * 2 ^ i % 18446744073709551616 ≡ 2 ^ i
shifted i h = rw one-mul (mod-eq_of_lt (lt_of_le_of_lt (most i h) (lit< tt)))

pub returns : goal.returns
returns c = (shifted _ c.requires, rw (shifted _ c.requires) (most _ c.requires))
