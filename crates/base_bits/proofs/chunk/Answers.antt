-- The shifted one is a power of two and never 0, so the remainder is the byte's `count` bits and smaller than that power.
use mathlib.Core.Path.{refl}
use native.Mathlib.Nat.{mod-lt}
use native.Mathlib.Omega.{arith}
use lib.Pow.{pow_pos}
use Rattle.base_bits.proofs.Shifts.{one_raised}
use Rattle.base_bits.proofs.chunk.Goals as goal

pub returns : goal.returns
returns c = rw (one_raised c.args.count (omega arith)) (refl, mod-lt _ (pow_pos _))
