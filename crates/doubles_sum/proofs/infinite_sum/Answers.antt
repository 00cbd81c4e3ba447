-- Two infinities of like signs are that infinity (`sum_of_infs`), of unlike ones NaN (`sum_of_infs_unlike`); beside a finite number an
-- infinity stays (`sum_of_inf`).
use mathlib.Core.Path.{◌≡◌, refl}
use Prim.Native.Nat.{◌/◌}
use native.Mathlib.Omega.{arith}
use Rattle.doubles_patterns.specs.Patterns.{top_place}
use Rattle.doubles_patterns.proofs.Signs.{signs_alike, signs_unlike}
use Rattle.doubles_sum.proofs.Sums.{sum_of_inf, sum_of_infs, sum_of_infs_unlike}
use Rattle.doubles_sum.proofs.infinite_sum.Goals as goal

pub returns-then-a-b : goal.returns-then-a-b
returns-then-a-b c =
    let a = c.args.a in
    let b = c.args.b in
    sum_of_infs a b _ (omega arith) (omega arith) (omega arith) (signs_alike a b (omega arith) (omega arith) (omega arith)) refl

pub returns-else-a-b : goal.returns-else-a-b
returns-else-a-b c =
    let a = c.args.a in
    let b = c.args.b in
    let unlike = signs_unlike a b (omega arith) (omega arith) (λ (h : a / top_place ≡ b / top_place). omega arith) in
    sum_of_infs_unlike a b _ (omega arith) (omega arith) (omega arith) unlike refl

pub returns-else-b-eq9218868437227405312 : goal.returns-else-b-eq9218868437227405312
returns-else-b-eq9218868437227405312 c = sum_of_inf c.args.a c.args.b _ (omega arith) (omega arith) (omega arith) refl
