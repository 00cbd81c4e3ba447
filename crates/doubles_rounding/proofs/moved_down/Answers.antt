-- What comes back when it is moved up again was moved down without loss (`standing_exact`); else the last place stands for what was lost
-- (`standing_lost`). By 64 places or more nothing is left but that (`standing_far`).
use Prim.Native.Nat.{◌^◌}
use native.Mathlib.Nat.{div-le_self}
use native.Mathlib.Omega.{arith}
use lib.Pow.{pow_pos}
use Rattle.doubles_rounding.proofs.Placing.{up_again, standing_exact, standing_lost, standing_none, standing_far}
use Rattle.doubles_rounding.proofs.moved_down.Goals as goal

pub overflow_mul-result : goal.overflow_mul-result
overflow_mul-result c = omega (arith, div-le_self c.args.x (2 ^ c.args.d))

pub overflow_add-result : goal.overflow_add-result
overflow_add-result c = omega (arith, div-le_self c.args.x (2 ^ c.args.d))

pub returns-then-kept-d : goal.returns-then-kept-d
returns-then-kept-d c = standing_exact _ _ (omega arith) (omega (arith, up_again c.args.x c.args.d (omega arith)))

pub returns-else-kept-d : goal.returns-else-kept-d
returns-else-kept-d c = standing_lost c.args.x (2 ^ c.args.d) (pow_pos _) (λ h. omega (arith, up_again c.args.x c.args.d (omega arith)))

pub returns-then-x-eq0 : goal.returns-then-x-eq0
returns-then-x-eq0 c = standing_none _ _ (omega arith) (omega arith)

pub returns-else-x-eq0 : goal.returns-else-x-eq0
returns-else-x-eq0 c = standing_far _ _ (omega arith) (λ h. omega arith) (omega arith)
