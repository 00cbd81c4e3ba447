-- The digits stand right behind the word (`put_more`); a number has at most 20 of them (`decimal_most`), the room that is required.
use native.Mathlib.Omega.{arith}
use Rattle.base_text.proofs.Puts.{put_more, put_length}
use Rattle.base_text.proofs.Decimals.{decimal_most}
use Rattle.program_report_text.proofs.put_word_number.Goals as goal

pub put_decimal-requires : goal.put_decimal-requires
put_decimal-requires c = omega (arith, c.requires, c.put_word-word_end.ensures.end, put_length c.put_word-word_end.ensures, decimal_most c.args.number)

pub returns : goal.returns
returns c = put_more c.put_word-word_end.ensures c.put_decimal.ensures
