use native.Mathlib.Omega.{arith}
use mathlib.Core.Path.{refl, sym, ap}
use lib.Dec.{ltb}
use Rattle.query_even.proofs.LackingAxis.{walk_within, walk_size, walk_next}
use Rattle.query_even.proofs.Passing.{passing_first, passing_last}
use Rattle.query_even.proofs.pass.knots_may_be_refused.Goals as goal

pub loop-i-init : goal.loop-i-init
loop-i-init c = passing_first _ _ _ c.requires

pub overflow_add-end : goal.overflow_add-end
overflow_add-end c = omega (arith, walk_within _ _ _ _ _ _ c.loop-i.invariant.even c.loop-i-test.true)

pub offset_bounds-knots-begin : goal.offset_bounds-knots-begin
offset_bounds-knots-begin c = omega (arith, walk_within _ _ _ _ _ _ c.loop-i.invariant.even c.loop-i-test.true)

pub slice_bounds-axis_may_be_refused-end : goal.slice_bounds-axis_may_be_refused-end
slice_bounds-axis_may_be_refused-end c = omega (arith, walk_within _ _ _ _ _ _ c.loop-i.invariant.even c.loop-i-test.true)

pub axis_may_be_refused-requires : goal.axis_may_be_refused-requires
axis_may_be_refused-requires c = walk_size _ _ _ _ _ _ c.loop-i.invariant.even c.loop-i-test.true

pub loop-i-preserved : goal.loop-i-preserved
loop-i-preserved c =
    let fine = c.axis_may_be_refused.ensures c.if-axis_may_be_refused.false in
    record {
      rising = walk_next _ _ _ _ _ _ c.loop-i.invariant.rising c.loop-i-test.true (sym fine.0) refl;
      even = walk_next _ _ _ _ _ _ c.loop-i.invariant.even c.loop-i-test.true (sym (ap (ltb 0) fine.1)) refl;
    }

pub returns : goal.returns
returns c = λ down. passing_last _ _ _ _ _ c.loop-i.invariant c.loop-i-test.false
