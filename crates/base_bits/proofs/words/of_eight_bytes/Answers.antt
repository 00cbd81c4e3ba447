-- Each byte stands in eight bits of its own, so nothing wraps, and the sum is the number that the eight spell (`word_summed`).
use native.Mathlib.Omega.{arith}
use Rattle.base_bits.proofs.WordsRead.{word_summed}
use Rattle.base_bits.proofs.words.of_eight_bytes.Goals as goal

pub returns : goal.returns
returns c =
    word_summed _ _ _ _ _ _ _ _ (omega arith) (omega arith) (omega arith) (omega arith) (omega arith) (omega arith) (omega arith)
    (omega arith)
