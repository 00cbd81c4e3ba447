-- A number below 10 is one digit (`decimal_short`); of any other the digits of its tenth and the last one behind them are its own
-- (`decimal_long`).
use mathlib.Core.Path.{ap}
use mathlib.Core.List.{List}
use Prim.Native.Nat.{ℕ}
use native.Mathlib.Omega.{arith}
use lib.ListN.{length}
use Rattle.base_text.proofs.Puts.{put_more, put_length}
use Rattle.base_text.proofs.Decimals.{decimal_short, decimal_long, one_digit_more}
use Rattle.base_text.proofs.+put_decimal.Goals as goal

pub put_byte-requires : goal.put_byte-requires
put_byte-requires t c =
    let one = decimal_short c.args.number (omega arith) in omega (arith, ap (λ (l : List ℕ). length l) one)

pub returns-then-number-lt10 : goal.returns-then-number-lt10
returns-then-number-lt10 t c = rw (decimal_short c.args.number (omega arith)) c.put_byte.ensures

pub put_decimal-end-requires : goal.put_decimal-end-requires
put_decimal-end-requires t c =
    let n = one_digit_more c.args.number (omega arith) (omega arith) in (omega arith, omega arith)

pub put_byte-requires-2 : goal.put_byte-requires-2
put_byte-requires-2 t c =
    let n = one_digit_more c.args.number (omega arith) (omega arith) in
    omega (arith, put_length c.put_decimal-end.ensures)

pub returns : goal.returns
returns t c =
    rw (decimal_long c.args.number (omega arith) (omega arith)) (put_more c.put_decimal-end.ensures c.put_byte-2.ensures)
