use mathlib.Core.Path.{sym, ◌∙◌}
use native.Mathlib.Omega.{arith}
use Rattle.base_numbers.proofs.Scan.{any_none, any_more, any_found, any_end}
use borrow.Author.Rules.{rules}
use Rattle.grid_checks.proofs.ends.some_ends_refused.Goals as goal

pub loop-i-init : goal.loop-i-init
loop-i-init c = (search rules, any_none _)

pub returns-then-ends_refused : goal.returns-then-ends_refused
returns-then-ends_refused c = sym (any_found _ c.loop-i.i _ (omega arith) (sym c.ends_refused.ensures ∙ c.if-ends_refused.true))

pub loop-i-preserved : goal.loop-i-preserved
loop-i-preserved c = (search rules, any_more _ _ c.loop-i.invariant.1 (sym c.ends_refused.ensures ∙ c.if-ends_refused.false))

pub returns : goal.returns
returns c = sym (any_end _ _ _ c.loop-i.invariant.1 (omega arith))
