use native.Mathlib.Omega.{arith}
use borrow.Author.Rules.{rules}
use Rattle.report_totals.proofs.Masks.{one_if_not_zero_most}
use Rattle.report_totals.proofs.Counts.{counted_first, places_few, finite_at, counts_few, inside, counted_next, counted_last}
use Rattle.report_totals.proofs.count_masks.Goals as goal

pub loop-p-init : goal.loop-p-init
loop-p-init c = let pre = c.requires in counted_first _ _ _ _ _ pre.0 pre.1 pre.2 pre.3

pub magnitude_of-size-requires : goal.magnitude_of-size-requires
magnitude_of-size-requires c =
    let pre = c.requires in
    finite_at _ _ _ _ _ pre.0 pre.1 pre.2 pre.3 _
    (omega (arith, inside _ _ _ _ _ pre.0 pre.1 pre.2 pre.3 _ _ _ _ _ c.loop-p.invariant c.loop-p-test.true))

pub magnitude_of-next_size-requires : goal.magnitude_of-next_size-requires
magnitude_of-next_size-requires c =
    let pre = c.requires in
    finite_at _ _ _ _ _ pre.0 pre.1 pre.2 pre.3 _
    (inside _ _ _ _ _ pre.0 pre.1 pre.2 pre.3 _ _ _ _ _ c.loop-p.invariant c.loop-p-test.true)

pub overflow_add-nonzero : goal.overflow_add-nonzero
overflow_add-nonzero c =
    let pre = c.requires in
    omega (
      arith,
      (counts_few _ _ _ _ _ pre.0 pre.1 pre.2 pre.3 _ _ _ _ _ c.loop-p.invariant).0,
      places_few _ _ _ _ _ pre.0 pre.1 pre.2 pre.3,
      one_if_not_zero_most c.magnitude_of-size.result,
      c.one_if_not_zero-nonzero.ensures,
      c.loop-p-test.true,
    )

pub overflow_add-next_nonzero : goal.overflow_add-next_nonzero
overflow_add-next_nonzero c =
    let pre = c.requires in
    omega (
      arith,
      (counts_few _ _ _ _ _ pre.0 pre.1 pre.2 pre.3 _ _ _ _ _ c.loop-p.invariant).1,
      places_few _ _ _ _ _ pre.0 pre.1 pre.2 pre.3,
      one_if_not_zero_most c.magnitude_of-next_size.result,
      c.one_if_not_zero-next_nonzero.ensures,
      c.loop-p-test.true,
    )

pub loop-p-preserved : goal.loop-p-preserved
loop-p-preserved c =
    let pre = c.requires in
    counted_next _ _ _ _ _ pre.0 pre.1 pre.2 pre.3 _ _ _ _ _ c.loop-p.invariant c.loop-p-test.true _ _ _ _ _ _
    c.magnitude_of-size.ensures c.magnitude_of-next_size.ensures
    c.one_if_not_zero-nonzero.ensures c.one_if_not_zero-next_nonzero.ensures
    (search rules) (search rules)

pub returns : goal.returns
returns c =
    let pre = c.requires in
    counted_last _ _ _ _ _ pre.0 pre.1 pre.2 pre.3 _ _ _ _ _ c.loop-p.invariant (omega (arith, c.loop-p.auto.p-end, c.loop-p-test.false))
