use mathlib.Core.Path.{sym}
use Rattle.base_numbers.proofs.Scan.{any_none, any_next}
use Rattle.base_numbers.proofs.any_difference_not_finite.Goals as goal

pub loop-i-init : goal.loop-i-init
loop-i-init c = sym (any_none _)

pub loop-i-preserved : goal.loop-i-preserved
loop-i-preserved c = rw (any_next, ← c.loop-i.invariant, ← c.is_finite.ensures)
