-- The remainder by a power of two is the number's lowest bits; with at most 8 of them the cast keeps all.
use mathlib.Core.Path.{refl}
use Prim.Native.Nat.{◌^◌, ◌≤◌}
use native.Mathlib.Nat.{mod-lt}
use native.Mathlib.Omega.{arith}
use lib.Pow.{pow_pos, pow_mono}
use Rattle.base_bits.proofs.Shifts.{one_raised}
use Rattle.base_bits.proofs.writing.lowest.Goals as goal

pub overflow_cast-result : goal.overflow_cast-result
overflow_cast-result c =
    rw (one_raised c.args.count c.requires)
    (let below = mod-lt c.args.n (pow_pos c.args.count) in
    let most : 2 ^ c.args.count ≤ 2 ^ 8 = pow_mono c.requires in omega arith)

pub returns : goal.returns
returns c = rw (one_raised c.args.count c.requires) (refl, mod-lt _ (pow_pos _))
