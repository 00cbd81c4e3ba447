use mathlib.Core.Path.{sym}
use native.Mathlib.Omega.{arith}
use borrow.Author.Tests.{le-leb, lt-leb}
use Rattle.base_numbers.proofs.Scan.{any_none, any_more, any_found, any_end}
use borrow.Author.Rules.{rules}
use Rattle.grid_checks.proofs.sizes.place_refused.Goals as goal

pub loop-i-init : goal.loop-i-init
loop-i-init c = (search rules, any_none _)

pub returns-then-all-i : goal.returns-then-all-i
returns-then-all-i c = sym (any_found _ c.loop-i.i _ (omega arith) (le-leb _ _ c.if-all-i.true))

pub loop-i-preserved : goal.loop-i-preserved
loop-i-preserved c = (search rules, any_more _ _ c.loop-i.invariant.1 (lt-leb _ _ c.if-all-i.false))

pub returns : goal.returns
returns c = sym (any_end _ _ _ c.loop-i.invariant.1 (omega arith))
