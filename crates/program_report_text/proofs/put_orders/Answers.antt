use mathlib.Core.Path.{◌≡◌}
use native.Mathlib.Omega.{arith}
use Rattle.program_report_text.specs.ReportText.{order_lines}
use Rattle.program_report_text.proofs.Lengths.{order_most}
use Rattle.program_report_text.proofs.Loops.{turn_first, turn_place, turn_next}
use Rattle.program_report_text.proofs.put_orders.Goals as goal

pub loop-k-init : goal.loop-k-init
loop-k-init c = turn_first _ _ _

pub put_order-end-requires : goal.put_order-end-requires
put_order-end-requires c =
    let place = turn_place _ _ _ _ _ _ c.loop-k.invariant 67 (λ i h. order_most i _ (omega arith)) in
    (c.loop-k-test.true, omega (arith, c.requires, place.0, place.1))

pub loop-k-preserved : goal.loop-k-preserved
loop-k-preserved c = turn_next _ _ _ _ _ _ c.loop-k.invariant _ _ c.put_order-end.ensures

pub returns : goal.returns
unfolding order_lines
returns c = let e : c.loop-k.k ≡ 5 = omega arith in rw e at c.loop-k.invariant
