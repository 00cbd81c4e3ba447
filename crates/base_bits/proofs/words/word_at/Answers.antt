-- The eight bytes from `place` on are the word there, whatever stands beside them (`word_alone`).
use mathlib.Core.Path.{◌∙◌}
use Rattle.base_bits.proofs.WordsRead.{word_alone}
use Rattle.base_bits.proofs.words.word_at.Goals as goal

pub returns : goal.returns
returns c = c.of_eight_bytes.ensures ∙ word_alone _ _
