-- The line of the count and behind it the lines of the numbers are the tensor's text; `length_text` divides the room between them.
use native.Mathlib.Omega.{arith}
use Rattle.base_text.proofs.Puts.{put_more, put_length}
use Rattle.base_text.proofs.Decimals.{length_word_line}
use Rattle.program_tensor_text.specs.TensorText.{tensor_line, tensor_text}
use Rattle.program_tensor_text.proofs.Texts.{length_text}
use Rattle.program_tensor_text.proofs.put_tensor.Goals as goal

pub put_word_line-end-requires : goal.put_word_line-end-requires
put_word_line-end-requires c = rw length_word_line (omega (arith, c.requires, length_text c.args.numbers.now))

pub put_numbers-requires : goal.put_numbers-requires
put_numbers-requires c =
    omega (
      arith,
      c.requires,
      length_text c.args.numbers.now,
      rw length_word_line at c.put_word_line-end.ensures.end,
      put_length c.put_word_line-end.ensures,
    )

pub returns : goal.returns
unfolding tensor_line tensor_text
returns c = put_more c.put_word_line-end.ensures c.put_numbers.ensures
