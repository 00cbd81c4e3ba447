-- The 16 hex digits of the number's pattern and LF behind them: the line of a number, 17 bytes.
use native.Mathlib.Omega.{arith}
use Rattle.base_text.proofs.Puts.{put_more, put_length}
use Rattle.base_text.proofs.HexDigits.{length_hex_digits}
use Rattle.program_tensor_text.specs.TensorText.{number_line}
use Rattle.program_tensor_text.proofs.put_number_line.Goals as goal

pub put_byte-requires : goal.put_byte-requires
put_byte-requires c =
    omega
    (arith, c.requires, c.put_hex_digits-end.ensures.end, put_length c.put_hex_digits-end.ensures, length_hex_digits 16 c.pattern-pattern.result)

pub returns : goal.returns
unfolding number_line
returns c = put_more (rw c.pattern-pattern.ensures at c.put_hex_digits-end.ensures) c.put_byte.ensures
