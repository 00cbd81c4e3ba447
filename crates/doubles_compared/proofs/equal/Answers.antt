-- A NaN is equal to nothing (`one_nan`); zeros are equal (`eq_zero`), and other doubles where their patterns are (`eq_other`).
use mathlib.Core.Path.{◌≡◌}
use native.Mathlib.Omega.{arith}
use Rattle.doubles_patterns.specs.Patterns.{magnitude}
use Rattle.doubles_compared.proofs.Compared.{one_nan, eq_zero, eq_other}
use Rattle.doubles_compared.proofs.equal.Goals as goal

pub returns-then-p-gt9218868437227405312 : goal.returns-then-p-gt9218868437227405312
returns-then-p-gt9218868437227405312 c = (one_nan c.args.a c.args.b (λ number. grind arith)).1

pub returns-then-p-eq0 : goal.returns-then-p-eq0
returns-then-p-eq0 c = eq_zero c.args.a c.args.b (omega arith) (omega arith) (omega arith)

pub returns-else-p-eq0 : goal.returns-else-p-eq0
returns-else-p-eq0 c =
    eq_other c.args.a c.args.b (omega arith) (omega arith) (omega arith) (omega arith)
    (λ (h : magnitude c.args.a ≡ 0). omega arith)
