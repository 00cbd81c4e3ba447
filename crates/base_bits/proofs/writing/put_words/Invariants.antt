-- The patterns of the first `k` numbers stand as words from byte `place` on; none is refused, so each is finite.
use mathlib.Core.Path.{◌≡◌}
use Prim.Native.Nat.{◌*◌}
use lib.ListN.{take}
use Rattle.base_bits.specs.Written.{number_fields, with_fields}
use Rattle.base_bits.proofs.writing.put_words.Given as goal

abbrev pub invariant-loop-k : goal.invariant-loop-k
invariant-loop-k l = l.bytes ≡ with_fields l.initial.bytes (8 * l.place) (number_fields (take l.k l.from))
