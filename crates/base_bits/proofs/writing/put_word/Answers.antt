-- The upper half of the number and behind it the lower one are its 64 bits (`word_written`).
use Rattle.base_bits.proofs.WordsWritten.{word_written}
use Rattle.base_bits.proofs.writing.put_word.Goals as goal

pub returns : goal.returns
returns c = word_written _ _ _ _ _ c.put_half_word.ensures c.put_half_word-2.ensures
