-- The right side is zero between its ends, gamma at the first place and corner at the last.
use native.Mathlib.Omega.{arith}
use Rattle.axis_solve.proofs.Corners.{filled, turn_last}
use Rattle.axis_solve.proofs.u_vec.Goals as goal

pub returns : goal.returns
returns c = turn_last _ _ _ _ _ _ (filled _ _ _ c.requires.0 c.requires.1 (c.fill.ensures.after (λ y is. is))) (omega arith)
