use mathlib.Core.Path.{sym}
use native.Mathlib.Omega.{arith}
use Rattle.grid.specs.GridOfCall.{condition_of}
use Rattle.grid.proofs.Products.{sum_none, sum_more}
use Rattle.sheet_write.specs.PartsWithRoom.{values}
use borrow.Author.Rules.{rules}
use Rattle.sheet_write.proofs.counts.all_values.Goals as goal

pub loop-i-init : goal.loop-i-init
loop-i-init c = (sym (sum_none _), search rules)

pub overflow_add-sum : goal.overflow_add-sum
overflow_add-sum c = omega (arith, c.values-sum.ensures.1)

pub loop-i-preserved : goal.loop-i-preserved
loop-i-preserved c = (
  rw (sum_more (λ i. values (condition_of c.args.all i)), ← c.loop-i.invariant.0, c.values-sum.ensures.0),
  omega (arith, c.values-sum.ensures.1),
)
