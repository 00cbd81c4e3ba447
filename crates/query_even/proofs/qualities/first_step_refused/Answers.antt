use mathlib.Core.Path.{sym, ◌∙◌}
use native.Mathlib.Nat.{sub-zero}
use native.Mathlib.Omega.{arith}
use Rattle.rules.specs.Steps.{h}
use Rattle.rules.specs.Refusals.{step_refused}
use Rattle.axis_even.proofs.First.{turn_first, turn_next, turn_found, turn_last}
use Rattle.query_even.proofs.qualities.first_step_refused.Goals as goal

pub loop-i-init : goal.loop-i-init
loop-i-init c = turn_first _ _ _ (omega arith)

pub returns-then-step_refused : goal.returns-then-step_refused
unfolding step_refused h
returns-then-step_refused c =
    rw sub-zero at
    (turn_found _ _ _ _ c.loop-i.invariant (omega arith)
    (sym c.step_refused.ensures ∙ c.if-step_refused.true))

pub loop-i-preserved : goal.loop-i-preserved
unfolding step_refused h
loop-i-preserved c =
    turn_next _ _ _ _ c.loop-i.invariant (omega arith)
    (sym c.step_refused.ensures ∙ c.if-step_refused.false)

pub returns : goal.returns
returns c = rw sub-zero at (turn_last _ _ _ _ c.loop-i.invariant (omega arith))
