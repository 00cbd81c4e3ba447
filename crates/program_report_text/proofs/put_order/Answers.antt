-- Counts, space, 16 hex digits of the largest magnitude and LF are the line of an order (`order_put`): 49 + 1 + 16 + 1 bytes at most.
use native.Mathlib.Omega.{arith}
use Rattle.base_text.proofs.Puts.{put_length}
use Rattle.base_text.proofs.HexDigits.{length_hex_digits}
use Rattle.program_report_text.proofs.Lengths.{counts_most}
use Rattle.program_report_text.proofs.Lines.{order_put}
use Rattle.program_report_text.proofs.put_order.Goals as goal

pub put_byte-space_end-requires : goal.put_byte-space_end-requires
put_byte-space_end-requires c =
    let counts = c.put_counts-counts_end.ensures in
    omega (arith, c.requires.1, counts.end, put_length counts, counts_most c.args.k c.args.order c.requires.0)

pub put_hex_digits-digits_end-requires : goal.put_hex_digits-digits_end-requires
put_hex_digits-digits_end-requires c =
    let counts = c.put_counts-counts_end.ensures in
    let space = c.put_byte-space_end.ensures in
    omega (
      arith,
      c.requires.1,
      counts.end,
      put_length counts,
      counts_most c.args.k c.args.order c.requires.0,
      space.end,
      put_length space,
    )

pub put_byte-requires : goal.put_byte-requires
put_byte-requires c =
    let counts = c.put_counts-counts_end.ensures in
    let space = c.put_byte-space_end.ensures in
    let digits = c.put_hex_digits-digits_end.ensures in
    omega (
      arith,
      c.requires.1,
      counts.end,
      put_length counts,
      counts_most c.args.k c.args.order c.requires.0,
      space.end,
      put_length space,
      digits.end,
      put_length digits,
      length_hex_digits 16 c.args.order.largest,
    )

pub returns : goal.returns
returns c =
    order_put _ c.args.order c.put_counts-counts_end.ensures c.put_byte-space_end.ensures c.put_hex_digits-digits_end.ensures
    c.put_byte.ensures
