-- A byte has eight bits, so what is left above the others has no more than `count`, and their remainder takes nothing away.
use mathlib.Core.Path.{◌≡◌, sym}
use Prim.Native.Nat.{◌+◌, ◌-◌, ◌/◌, ◌^◌, ◌<◌}
use native.Mathlib.Nat.{mod-eq_of_lt}
use native.Mathlib.Omega.{arith}
use lib.Pow.{shr_lt}
use Rattle.base_bits.proofs.first_bits.Goals as goal

pub returns : goal.returns
returns c =
    let args = c.args in
    let all : args.count + (8 - args.count) ≡ 8 = omega arith in
    let few : args.byte / 2 ^ (8 - args.count) < 2 ^ args.count = shr_lt args.count (8 - args.count) (rw all (omega arith)) in
    (sym (mod-eq_of_lt few), few)
