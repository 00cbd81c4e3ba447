-- A NaN is less than nothing (`one_nan`); else the magnitudes decide by the two signs, and where the first alone has a
-- minus they must not both be zero (`lt_up`).
use mathlib.Core.Path.{◌∙◌}
use native.Mathlib.Omega.{arith}
use borrow.Author.Tests.{le-ltb}
use Rattle.doubles_compared.proofs.Compared.{one_nan, lt_above, lt_down, lt_up, lt_below}
use Rattle.doubles_compared.proofs.less.Goals as goal

pub returns-then-o-gt9218868437227405312 : goal.returns-then-o-gt9218868437227405312
returns-then-o-gt9218868437227405312 c = (one_nan c.args.a c.args.b (λ number. grind arith)).0

pub returns-then-b-lt9223372036854775808 : goal.returns-then-b-lt9223372036854775808
returns-then-b-lt9223372036854775808 c = lt_above c.args.a c.args.b (omega arith) (omega arith) (omega arith) (omega arith)

pub returns-else-b-lt9223372036854775808 : goal.returns-else-b-lt9223372036854775808
returns-else-b-lt9223372036854775808 c = le-ltb _ _ (omega arith) ∙ lt_down c.args.a c.args.b (omega arith) (omega arith) (omega arith) (omega arith)

pub returns-then-b-lt9223372036854775808-2 : goal.returns-then-b-lt9223372036854775808-2
returns-then-b-lt9223372036854775808-2 c = lt_up c.args.a c.args.b (omega arith) (omega arith) (omega arith) (omega arith)

pub returns-else-b-lt9223372036854775808-2 : goal.returns-else-b-lt9223372036854775808-2
returns-else-b-lt9223372036854775808-2 c = lt_below c.args.a c.args.b (omega arith) (omega arith) (omega arith) (omega arith)
