-- Both branches are `nearest`: half of 256³ is added on the number's own side of zero, and the division cuts off toward zero, so halves go away
-- from zero. With a magnitude of at most 256³ times 65,536, each sum and quotient fits 64 bits.
use mathlib.Core.Path.{◌≡◌, refl}
use Prim.Native.Nat.{ℕ, suc, ◌+◌, ◌/◌, ◌≤◌}
use native.Mathlib.Omega.{arith}
use lib.IntN.{pos, negsuc, neg_ℤ, ◌-ℤ◌}
use lib.Signed.{quot_z}
use mir.Syntax.{w64}
use mir.Val.{to_z, of_z}
use mir.ValLaws.{to_z-of_z, to_z_pos}
use Rattle.base_integers.proofs.Signs.{Below, Above, below, above}
use Rattle.base_integers.proofs.Sizes.{neg_fits}
use Rattle.device_cell.specs.DeviceCell.{nearest}
use Rattle.device_cell.proofs.rounded.Goals as goal
use Rattle.device_cell.proofs.rounded.Goals.{Else-number-lt0, Start, Then-number-lt0}

read : (c : Start) → to_z w64 (of_z w64 c.args.number) ≡ c.args.number
read c = to_z-of_z w64 c.args.number c.ranges.number

neg : (c : Then-number-lt0) → Below c.args.number
neg c = below c.args.number (rw (to_z-of_z w64 c.args.number c.ranges.number) at c.if-number-lt0.true)

not : (c : Else-number-lt0) → Above c.args.number
not c = above c.args.number (rw (to_z-of_z w64 c.args.number c.ranges.number) at c.if-number-lt0.false)

quotient_below : (n : ℕ) → quot_z (negsuc n -ℤ pos 8388608) (pos 16777216) ≡ neg_ℤ (pos ((suc n + 8388608) / 16777216))
quotient_below n = let e : suc n + 8388608 ≡ suc (suc (n + 8388607)) = omega arith in rw e refl

pub returns-then-number-lt0 : goal.returns-then-number-lt0
unfolding nearest
returns-then-number-lt0 c =
    let b = neg (goal.at.returns-then-number-lt0 c).Then-number-lt0 in
    let small : suc b.n ≤ 1099511627776 = rw b.is at c.requires.sized in
    let q = (suc b.n + 8388608) / 16777216 in
    rw (
      read (goal.at.returns-then-number-lt0 c).Start,
      b.is,
      to_z-of_z w64 (negsuc b.n -ℤ pos 8388608) (record { sfits = omega arith }),
      quotient_below b.n,
      to_z-of_z w64 (neg_ℤ (pos q)) (neg_fits q (omega arith)),
    )

pub returns-else-number-lt0 : goal.returns-else-number-lt0
unfolding nearest
returns-else-number-lt0 c =
    let a = not (goal.at.returns-else-number-lt0 c).Else-number-lt0 in
    let small : a.n ≤ 1099511627776 = rw a.is at c.requires.sized in
    rw (
      read (goal.at.returns-else-number-lt0 c).Start,
      a.is,
      to_z_pos w64 (a.n + 8388608) (omega arith),
      to_z_pos w64 ((a.n + 8388608) / 16777216) (omega arith),
    )
