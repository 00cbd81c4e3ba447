-- The exponent field less one, and 0 for a field of 0, which subnormal numbers have.
use mathlib.Core.Path.{◌≡◌}
use Prim.Native.Nat.{◌-◌, ◌/◌}
use native.Mathlib.Omega.{arith}
use Rattle.doubles_patterns.specs.Patterns.{leading, exponent_of}
use Rattle.doubles_patterns.proofs.Magnitudes.{fields_of}
use Rattle.doubles_patterns.proofs.exponent.Goals as goal

pub returns-then-field-eq0 : goal.returns-then-field-eq0
unfolding exponent_of
returns-then-field-eq0 c = (let e : 0 ≡ exponent_of c.args.p = omega arith in (e, fields_of _ _ (omega arith) e))

pub returns-else-field-eq0 : goal.returns-else-field-eq0
unfolding exponent_of
returns-else-field-eq0 c = (let e : c.args.p / leading - 1 ≡ exponent_of c.args.p = omega arith in (e, fields_of _ _ (omega arith) e))
