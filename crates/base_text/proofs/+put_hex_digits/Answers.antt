-- No digits leave the text as it is (`no_digits`); else those of the number over 16 and the last one behind them are the digits
-- (`one_digit_more`).
use Prim.Native.Nat.{◌-◌, ◌/◌}
use native.Mathlib.Omega.{arith}
use Rattle.base_text.proofs.Puts.{put_length}
use Rattle.base_text.proofs.HexDigits.{length_hex_digits, no_digits, one_digit_more}
use Rattle.base_text.proofs.+put_hex_digits.Goals as goal

pub returns-then-count-eq0 : goal.returns-then-count-eq0
returns-then-count-eq0 t c = no_digits _ _ _ _ c.if-count-eq0.true

pub put_byte-requires : goal.put_byte-requires
put_byte-requires t c =
    let n = length_hex_digits (c.args.count - 1) (c.args.number / 16) in
    omega (arith, put_length c.put_hex_digits-end.ensures)

pub returns : goal.returns
returns t c =
    one_digit_more c.args.count c.args.number _ c.if-count-eq0.false c.hex_digit.ensures c.put_hex_digits-end.ensures
    c.put_byte.ensures
