use mathlib.Core.Path.{sym, ap, ◌∙◌}
use mathlib.Core.Bool.{not}
use native.Mathlib.Omega.{arith}
use Rattle.base_numbers.proofs.Scan.{any_more, any_found}
use Rattle.base_numbers.proofs.any_not_finite_from.Goals as goal

pub returns-then-not-is_finite : goal.returns-then-not-is_finite
returns-then-not-is_finite c = sym (any_found _ c.loop-i.i _ (omega arith) (ap not (sym c.is_finite.ensures ∙ c.if-not-is_finite.true)))

pub loop-i-preserved : goal.loop-i-preserved
loop-i-preserved c = any_more _ _ c.loop-i.invariant (ap not (sym c.is_finite.ensures ∙ c.if-not-is_finite.false))
