-- 32 bits read with their sign. The number is in a range of as many numbers below zero as from zero on just where, lifted by half of the
-- range without the carry, it is below the range.
use mathlib.Core.Path.{◌≡◌, refl, sym, ap, ◌∙◌}
use mathlib.Core.Bool.{Bool, true, false, not, ◌&&◌}
use Prim.Native.Nat.{ℕ, suc, ◌+◌, ◌-◌, ◌*◌, ◌%◌, ◌<◌}
use native.Mathlib.Omega.{arith}
use lib.Dec.{ltb, leb}
use lib.IntN.{pos, negsuc, ◌-ℤ◌}
use mir.Syntax.{w32}
use mir.Val.{to_z}
use mir.ValLaws.{to_z_pos}
use Rattle.std.proofs.Math.Facts.{to_z-neg}
use borrow.Author.Tests.{ltb-true, ltb-false, leb-true, leb-false, le-leb, lt-leb}
use Rattle.base_integers.proofs.Differences.{less_is, less_below}
use Rattle.device_cell.specs.DeviceCell.{in_range}
use Rattle.device_cursor.specs.DeviceCurve.{signed}
use Rattle.device_cursor.proofs.Judged.{low, high}

negative : (n m : ℕ) → n + (m + 1) ≡ 4294967296 → pos n -ℤ pos 4294967296 ≡ negsuc m
negative n m is =
    less_is n 4294967296 ∙ less_below n 4294967296 (omega arith) ∙ (let e : 4294967296 - n ≡ suc m = omega arith in rw e refl)

-- two's complement
pub bits_signed : (n : ℕ) → n < 4294967296 → to_z w32 n ≡ signed n
bits_signed n few = go (ltb n 2147483648) refl
  where
    go : (b : Bool) → ltb n 2147483648 ≡ b → to_z w32 n ≡ signed n
    go true e = let l = ltb-true n 2147483648 e in to_z_pos w32 n l ∙ low n l
    go false e =
        let l = ltb-false n 2147483648 e in
        let m = 4294967295 - n in
        let is : n ≡ 4294967296 - suc m = omega arith in
        ap (to_z w32) is ∙ to_z-neg w32 m (omega arith) ∙ sym (negative n m (omega arith)) ∙ high n l

module _ (h n : ℕ) (small : h < 1073741824) (few : n < 4294967296) where
  from_zero : n < 2147483648 → leb (2 * (h + 1)) ((n + (h + 1)) % 4294967296) ≡ not (leb n h)
  from_zero l = go (leb n h) refl
    where
      go : (b : Bool) → leb n h ≡ b → leb (2 * (h + 1)) ((n + (h + 1)) % 4294967296) ≡ not (leb n h)
      go true e = let m = leb-true n h e in rw e (lt-leb (2 * (h + 1)) ((n + (h + 1)) % 4294967296) (omega arith))
      go false e = let m = leb-false n h e in rw e (le-leb (2 * (h + 1)) ((n + (h + 1)) % 4294967296) (omega arith))

  below_zero : (m : ℕ) → n + (m + 1) ≡ 4294967296 → m < 2147483648
      → leb (2 * (h + 1)) ((n + (h + 1)) % 4294967296) ≡ not (leb m h && true)
  below_zero m is l = go (leb m h) refl
    where
      go : (b : Bool) → leb m h ≡ b → leb (2 * (h + 1)) ((n + (h + 1)) % 4294967296) ≡ not (leb m h && true)
      go true e = let k = leb-true m h e in rw e (lt-leb (2 * (h + 1)) ((n + (h + 1)) % 4294967296) (omega arith))
      go false e = let k = leb-false m h e in rw e (le-leb (2 * (h + 1)) ((n + (h + 1)) % 4294967296) (omega arith))

  pub lifted_above : leb (2 * (h + 1)) ((n + (h + 1)) % 4294967296) ≡ not (in_range (negsuc h) (pos h) (signed n))
  lifted_above = go (ltb n 2147483648) refl
    where
      go : (b : Bool) → ltb n 2147483648 ≡ b
          → leb (2 * (h + 1)) ((n + (h + 1)) % 4294967296) ≡ not (in_range (negsuc h) (pos h) (signed n))
      go true e = let l = ltb-true n 2147483648 e in rw (← low n l) (from_zero l)
      go false e =
          let l = ltb-false n 2147483648 e in
          let m = 4294967295 - n in
          let is : n + (m + 1) ≡ 4294967296 = omega arith in
          rw (← high n l, negative n m is) (below_zero m is (omega arith))
