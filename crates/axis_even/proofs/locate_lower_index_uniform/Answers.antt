-- The cell by the quotient: 0 below zero, its whole part up to the last cell, and 0 again from 2^64 on or for NaN. The cast is asked
-- only for a quotient from 0 to below 2^64, so `above_minus_one` gives it what it requires.
use Rattle.std.proofs.Common.{T, sym, subst, arith}
use lib.Ieee.{of_bits}
use Rattle.axis_even.proofs.Direct.{above_minus_one, direct_below, direct_too_large, direct_held}
use Rattle.axis_even.proofs.locate_lower_index_uniform.Goals as goal

pub returns-then-t : goal.returns-then-t
returns-then-t c = direct_below _ _ _ _ c.if-t.true

pub truncating_f64_to_u64-index-requires : goal.truncating_f64_to_u64-index-requires
unfolding of_bits
truncating_f64_to_u64-index-requires c = record {
  lower_bound = above_minus_one _ c.if-t.false c.if-t-2.true;
  upper_bound = subst T (sym c.if-t-2.true) tt;
}

pub returns-then-t-2 : goal.returns-then-t-2
returns-then-t-2 c =
    direct_held _ _ _ _ c.if-t.false c.if-t-2.true c.truncating_f64_to_u64-index.result _
    c.truncating_f64_to_u64-index.ensures (omega arith)

pub returns : goal.returns
returns c = direct_too_large _ _ _ _ c.if-t.false c.if-t-2.false
