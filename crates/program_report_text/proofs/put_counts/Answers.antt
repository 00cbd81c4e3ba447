-- The order in at most 7 bytes and each of its two counts in at most 21, a space before it: the front of its line (`counts_put`).
use native.Mathlib.Omega.{arith}
use Rattle.base_text.proofs.Puts.{put_length}
use Rattle.program_report_text.proofs.Lengths.{order_front_most, spaced_most}
use Rattle.program_report_text.proofs.Lines.{counts_put}
use Rattle.program_report_text.proofs.put_counts.Goals as goal

pub put_word_number-entries_end-requires : goal.put_word_number-entries_end-requires
put_word_number-entries_end-requires c =
    let first = c.put_word_number-order_end.ensures in
    omega (arith, c.requires.1, first.end, put_length first, order_front_most c.args.k c.requires.0)

pub put_word_number-requires : goal.put_word_number-requires
put_word_number-requires c =
    let first = c.put_word_number-order_end.ensures in
    let second = c.put_word_number-entries_end.ensures in
    omega (
      arith,
      c.requires.1,
      first.end,
      put_length first,
      order_front_most c.args.k c.requires.0,
      second.end,
      put_length second,
      spaced_most c.args.order.entries,
    )

pub returns : goal.returns
returns c =
    counts_put _ c.args.order c.put_word_number-order_end.ensures c.put_word_number-entries_end.ensures
    c.put_word_number.ensures
