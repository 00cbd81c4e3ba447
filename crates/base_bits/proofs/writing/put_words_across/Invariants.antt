-- With the last bits of `before`, which the next turn or the end writes, the first `k` patterns stand (`Late`); none is refused, so each is
-- finite.
use Rattle.base_bits.proofs.WordsWritten.{Late}
use Rattle.base_bits.proofs.writing.put_words_across.Given as goal

abbrev pub invariant-loop-k : goal.invariant-loop-k
invariant-loop-k l = Late l.initial.bytes l.place l.shift l.from l.bytes l.before l.k
