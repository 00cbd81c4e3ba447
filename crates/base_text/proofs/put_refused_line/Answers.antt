-- The refusal's line is by definition the line of a word and a number with `refused` for the word, and the room required is the same.
use Rattle.base_text.specs.Lines.{refused_line}
use Rattle.base_text.proofs.put_refused_line.Goals as goal

pub put_word_line-requires : goal.put_word_line-requires
unfolding refused_line
put_word_line-requires c = c.requires

pub returns : goal.returns
unfolding refused_line
returns c = c.put_word_line.ensures
