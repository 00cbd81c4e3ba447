-- A normal number has its leading digit in its place (`raised_normal`); a subnormal one is moved up to it (`raised_subnormal`), by eleven
-- places fewer than its word has zeros in front.
use native.Mathlib.Omega.{arith}
use lib.Count.{leading_le}
use Rattle.doubles_patterns.proofs.Magnitudes.{places_up, raised_normal, raised_subnormal}
use Rattle.doubles_patterns.proofs.parts_of.Goals as goal

pub overflow_cast-up : goal.overflow_cast-up
overflow_cast-up c = omega (arith, leading_le 64 c.args.p)

pub overflow_sub-up : goal.overflow_sub-up
overflow_sub-up c = omega (arith, (places_up c.args.p (omega arith) (omega arith)).0)

pub overflow_shl-result : goal.overflow_shl-result
overflow_shl-result c = omega (arith, (places_up c.args.p (omega arith) (omega arith)).1)

pub overflow_sub-result : goal.overflow_sub-result
overflow_sub-result c = omega (arith, (places_up c.args.p (omega arith) (omega arith)).1)

pub returns-then-field-eq0 : goal.returns-then-field-eq0
returns-then-field-eq0 c = raised_subnormal _ (omega arith) (omega arith)

pub returns-else-field-eq0 : goal.returns-else-field-eq0
returns-else-field-eq0 c = raised_normal _ (omega arith) (omega arith)
