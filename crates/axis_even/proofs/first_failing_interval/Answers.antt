use Rattle.std.proofs.Common.{refl, ◌∙◌, arith}
use Rattle.rules.specs.Steps.{h}
use Rattle.axis_even.proofs.Spacing.{fails_is, failing_is}
use Rattle.axis_even.proofs.First.{turn_first, turn_next, turn_found, turn_last}
use Rattle.axis_even.proofs.first_failing_interval.Goals as goal

pub loop-i-init : goal.loop-i-init
loop-i-init c = turn_first _ _ _ (omega arith)

pub returns-then-fails : goal.returns-then-fails
unfolding h
returns-then-fails c =
    turn_found _ _ _ _ c.loop-i.invariant (omega arith)
    (fails_is _ _ _ _ _ refl refl c.tolerance-tolerance.ensures _ c.fails.ensures ∙ c.if-fails.true)
    ∙ failing_is _ _

pub loop-i-preserved : goal.loop-i-preserved
unfolding h
loop-i-preserved c =
    turn_next _ _ _ _ c.loop-i.invariant (omega arith)
    (fails_is _ _ _ _ _ refl refl c.tolerance-tolerance.ensures _ c.fails.ensures ∙ c.if-fails.false)

pub returns : goal.returns
returns c = turn_last _ _ _ _ c.loop-i.invariant (omega arith) ∙ failing_is _ _
