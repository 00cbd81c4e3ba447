-- All zeros in front are taken where the exponent has as many steps, and else one more than its steps (`shifted_least`).
use mathlib.Core.Path.{refl}
use native.Mathlib.Omega.{arith}
use lib.Count.{leading_le}
use borrow.Author.Rules.{rules}
use Rattle.doubles_rounding.proofs.Shifts.{shifted_least}
use Rattle.doubles_rounding.proofs.shift.Goals as goal

pub overflow_cast-zeros : goal.overflow_cast-zeros
overflow_cast-zeros c = omega (arith, leading_le 64 c.args.s)

pub returns : goal.returns
returns c = shifted_least _ _ _ _ (omega arith) (omega arith) refl (search rules)
