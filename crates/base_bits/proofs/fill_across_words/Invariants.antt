-- The first `k` numbers are stored, and `word` is the word in which the next one begins; it ends in the word that the turn reads
-- (`across_word`), and the last one in a byte (`across_byte`).
use mathlib.Core.Path.{◌≡◌}
use Prim.Native.Nat.{◌+◌, ◌*◌}
use Rattle.base_bits.specs.Bits.{field}
use Rattle.base_bits.proofs.Numbers.{stored}
use Rattle.base_bits.proofs.fill_across_words.Given as goal

abbrev pub invariant-loop-k : goal.invariant-loop-k
invariant-loop-k l = (l.to ≡ stored l.bytes (8 * l.place + l.shift) l.initial.to l.k)
    × (l.word ≡ field l.bytes (8 * (l.place + 8 * l.k)) 64)
