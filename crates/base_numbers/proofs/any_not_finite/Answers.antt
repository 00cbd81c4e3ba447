use mathlib.Core.Path.{sym}
use Rattle.base_numbers.proofs.Scan.{any_none, any_next}
use Rattle.base_numbers.proofs.any_not_finite.Goals as goal

pub loop-x-init : goal.loop-x-init
loop-x-init c = sym (any_none _)

pub loop-x-preserved : goal.loop-x-preserved
loop-x-preserved c = rw (any_next, ← c.loop-x.invariant, ← c.is_finite.ensures)
