-- The four weights at a position up to 256 are those of the rules. `weighed`, which was computed at every position, bounds each
-- product on the way, and p1's weight by 256³, so that of p0 is not below zero.
use native.Mathlib.Omega.{arith}
use mir.Syntax.{w64}
use mir.ValLaws.{to_z_pos}
use Rattle.device_cell.specs.CellWeights.{weight_p0, weight_p1, weight_d0, weight_d1}
use Rattle.device_cell.proofs.Weighed.{Weighed, weighed}
use Rattle.device_cell.proofs.weights_at.Goals as goal
use Rattle.device_cell.proofs.weights_at.Goals.{Start}

known : (c : Start) → Weighed c.args.k
known c = weighed c.args.k c.requires

pub overflow_mul-p1 : goal.overflow_mul-p1
overflow_mul-p1 c = let w = known (goal.at.overflow_mul-p1 c).Start in omega arith

pub overflow_mul-p1-3 : goal.overflow_mul-p1-3
overflow_mul-p1-3 c = let w = known (goal.at.overflow_mul-p1-3 c).Start in omega arith

pub overflow_sub-result : goal.overflow_sub-result
overflow_sub-result c = (known (goal.at.overflow_sub-result c).Start).most_p1

pub overflow_cast-result-2 : goal.overflow_cast-result-2
overflow_cast-result-2 c = let w = known (goal.at.overflow_cast-result-2 c).Start in record { sfits = omega arith }

pub overflow_mul-result : goal.overflow_mul-result
overflow_mul-result c = let w = known (goal.at.overflow_mul-result c).Start in omega arith

pub overflow_mul-result-2 : goal.overflow_mul-result-2
overflow_mul-result-2 c = let w = known (goal.at.overflow_mul-result-2 c).Start in omega arith

pub overflow_cast-result-3 : goal.overflow_cast-result-3
overflow_cast-result-3 c = let w = known (goal.at.overflow_cast-result-3 c).Start in record { sfits = omega arith }

pub overflow_mul-result-4 : goal.overflow_mul-result-4
overflow_mul-result-4 c = let w = known (goal.at.overflow_mul-result-4 c).Start in omega arith

pub overflow_cast-result-4 : goal.overflow_cast-result-4
overflow_cast-result-4 c = let w = known (goal.at.overflow_cast-result-4 c).Start in record { sfits = omega arith }

pub returns : goal.returns
returns c =
    let w = known (goal.at.returns c).Start in
    let k = c.args.k in
    rw (
      to_z_pos w64 (weight_p0 k) (omega arith),
      to_z_pos w64 (weight_p1 k) (omega arith),
      to_z_pos w64 (weight_d0 k) (omega arith),
      to_z_pos w64 (weight_d1 k) (omega arith),
    )
