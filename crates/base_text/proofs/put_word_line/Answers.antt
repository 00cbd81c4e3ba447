-- Word, decimal digits and LF, one behind the other, are the line (`line_put`); `length_word_line` shows room for each of the three.
use native.Mathlib.Omega.{arith}
use Rattle.base_text.proofs.Puts.{put_length}
use Rattle.base_text.proofs.Decimals.{length_word_line, line_put}
use Rattle.base_text.proofs.put_word_line.Goals as goal

pub put_word-word_end-requires : goal.put_word-word_end-requires
put_word-word_end-requires c = omega (arith, length_word_line c.args.word.now c.args.number)

pub put_decimal-number_end-requires : goal.put_decimal-number_end-requires
put_decimal-number_end-requires c =
    omega (arith, length_word_line c.args.word.now c.args.number, put_length c.put_word-word_end.ensures)

pub put_byte-requires : goal.put_byte-requires
put_byte-requires c =
    omega (
      arith,
      length_word_line c.args.word.now c.args.number,
      put_length c.put_word-word_end.ensures,
      put_length c.put_decimal-number_end.ensures,
    )

pub returns : goal.returns
returns c = line_put _ _ c.put_word-word_end.ensures c.put_decimal-number_end.ensures c.put_byte.ensures
