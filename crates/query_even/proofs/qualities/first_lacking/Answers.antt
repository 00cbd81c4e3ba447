use native.Mathlib.Omega.{arith}
use Rattle.query_even.proofs.LackingAxis.{walk_first, walk_within, walk_found, walk_next, walk_last}
use Rattle.query_even.proofs.qualities.first_lacking.Goals as goal

pub loop-i-init : goal.loop-i-init
loop-i-init c = walk_first _ _ _ _ c.requires

pub overflow_add-end : goal.overflow_add-end
overflow_add-end c = omega (arith, walk_within _ _ _ _ _ _ c.loop-i.invariant c.loop-i-test.true)

pub offset_bounds-knots-begin : goal.offset_bounds-knots-begin
offset_bounds-knots-begin c = omega (arith, walk_within _ _ _ _ _ _ c.loop-i.invariant c.loop-i-test.true)

pub slice_bounds-lacks-end : goal.slice_bounds-lacks-end
slice_bounds-lacks-end c = omega (arith, walk_within _ _ _ _ _ _ c.loop-i.invariant c.loop-i-test.true)

pub returns-then-lacks : goal.returns-then-lacks
returns-then-lacks c =
    walk_found _ _ _ _ _ _ c.loop-i.invariant c.loop-i-test.true c.lacks.ensures c.if-lacks.true _
    c.first_lack.ensures

pub loop-i-preserved : goal.loop-i-preserved
loop-i-preserved c = walk_next _ _ _ _ _ _ c.loop-i.invariant c.loop-i-test.true c.lacks.ensures c.if-lacks.false

pub returns : goal.returns
returns c = walk_last _ _ _ _ _ _ c.loop-i.invariant c.loop-i-test.false
