-- The first `k` numbers are stored, each from the word that begins 8 bytes behind the one before (`stored_more`).
use mathlib.Core.Path.{◌≡◌}
use Prim.Native.Nat.{◌*◌}
use Rattle.base_bits.proofs.Numbers.{stored}
use Rattle.base_bits.proofs.fill_from_words.Given as goal

abbrev pub invariant-loop-k : goal.invariant-loop-k
invariant-loop-k l = l.to ≡ stored l.bytes (8 * l.place) l.initial.to l.k
