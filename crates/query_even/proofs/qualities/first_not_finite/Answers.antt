use mathlib.Core.Path.{sym, ap, ◌∙◌}
use mathlib.Core.Bool.{not}
use native.Mathlib.Nat.{sub-zero}
use native.Mathlib.Omega.{arith}
use Rattle.axis_even.proofs.First.{turn_first, turn_next, turn_found, turn_last}
use Rattle.query_even.proofs.qualities.first_not_finite.Goals as goal

pub loop-i-init : goal.loop-i-init
loop-i-init c = turn_first _ _ _ (omega arith)

pub returns-then-not-is_finite : goal.returns-then-not-is_finite
returns-then-not-is_finite c =
    rw sub-zero at
    (turn_found _ _ _ _ c.loop-i.invariant (omega arith)
    (ap not (sym c.is_finite.ensures ∙ c.if-not-is_finite.true)))

pub loop-i-preserved : goal.loop-i-preserved
loop-i-preserved c =
    turn_next _ _ _ _ c.loop-i.invariant (omega arith)
    (ap not (sym c.is_finite.ensures ∙ c.if-not-is_finite.false))

pub returns : goal.returns
returns c = rw sub-zero at (turn_last _ _ _ _ c.loop-i.invariant (omega arith))
