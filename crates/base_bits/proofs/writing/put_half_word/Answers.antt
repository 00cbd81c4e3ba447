-- Four bytes of the number side by side, the heaviest first, are its 32 bits (`half_written`).
use Rattle.base_bits.proofs.WordsWritten.{half_written}
use Rattle.base_bits.proofs.writing.put_half_word.Goals as goal

pub returns : goal.returns
returns c =
    half_written _ _ _ _ _ _ _ c.put_in_byte.ensures c.put_in_byte-2.ensures c.put_in_byte-3.ensures
    c.put_in_byte-4.ensures
