use mathlib.Core.Path.{sym, ◌∙◌}
use native.Mathlib.Nat.{sub-zero}
use native.Mathlib.Omega.{arith}
use Rattle.axis_even.proofs.First.{turn_first, turn_next, turn_found, turn_last}
use Rattle.tensor_verify.proofs.Numbers.{ours_finite, others_finite}
use Rattle.tensor_verify.proofs.compared.first_differing.Goals as goal

pub loop-i-init : goal.loop-i-init
loop-i-init c = turn_first _ _ _ (omega arith)

pub bounds-others-i : goal.bounds-others-i
bounds-others-i c = omega (arith, c.requires.same_length)

pub differs-requires : goal.differs-requires
differs-requires c = (ours_finite _ _ c.requires _ (omega arith), others_finite _ _ c.requires _ (omega arith))

pub returns-then-differs : goal.returns-then-differs
returns-then-differs c =
    rw sub-zero at
    (turn_found _ _ _ _ c.loop-i.invariant (omega arith) (sym c.differs.ensures ∙ c.if-differs.true))

pub loop-i-preserved : goal.loop-i-preserved
loop-i-preserved c = turn_next _ _ _ _ c.loop-i.invariant (omega arith) (sym c.differs.ensures ∙ c.if-differs.false)

pub returns : goal.returns
returns c = rw sub-zero at (turn_last _ _ _ _ c.loop-i.invariant (omega arith))
