use mathlib.Core.Path.{◌≡◌}
use Prim.Native.Nat.{suc, ◌+◌, ◌-◌}
use native.Mathlib.Omega.{arith}
use Rattle.program_report_text.specs.ReportText.{refusal_lines}
use Rattle.program_report_text.proofs.Lengths.{occurred_most}
use Rattle.program_report_text.proofs.Loops.{turn_first, turn_place, turn_next}
use Rattle.program_report_text.proofs.put_refusals.Goals as goal

pub loop-number-init : goal.loop-number-init
loop-number-init c = turn_first _ _ _

pub put_occurred-end-requires : goal.put_occurred-end-requires
put_occurred-end-requires c =
    let place = turn_place _ _ _ _ _ _ c.loop-number.invariant 32 (λ k h. occurred_most (suc k) _ (omega arith)) in
    let more = c.loop-number-test.true in
    (omega (arith, more), omega (arith, more, c.requires, place.0, place.1))

pub loop-number-preserved : goal.loop-number-preserved
loop-number-preserved c =
    let number = c.loop-number.number in
    let here : number ≡ suc (number - 1) = omega arith in
    let next : number - 1 + 1 ≡ number + 1 - 1 = omega arith in
    rw (← next) (turn_next _ _ _ _ _ _ c.loop-number.invariant _ _ (rw here at c.put_occurred-end.ensures))

pub returns : goal.returns
unfolding refusal_lines
returns c = let e : c.loop-number.number ≡ 24 = omega arith in rw e at c.loop-number.invariant
