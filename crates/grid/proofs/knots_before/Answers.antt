use native.Mathlib.Omega.{arith}
use mathlib.Core.Path.{sym}
use Rattle.grid.proofs.Products.{sum_none, sum_more}
use borrow.Author.Rules.{rules}
use Rattle.grid.proofs.knots_before.Goals as goal

pub loop-j-init : goal.loop-j-init
loop-j-init c = (sym (sum_none _), search rules)

pub loop-j-preserved : goal.loop-j-preserved
loop-j-preserved c = (rw (sum_more, ← c.loop-j.invariant.0), omega (arith, c.requires.1 c.loop-j.j (omega arith)))
