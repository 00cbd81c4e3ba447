-- Of like signs the magnitudes are added (`sum_of_alike`), of unlike ones subtracted (`sum_of_unlike`); equal ones leave +0
-- (`sum_of_equal`). The sign is that of the larger magnitude.
use mathlib.Core.Path.{◌≡◌, refl}
use Prim.Native.Nat.{◌/◌}
use native.Mathlib.Omega.{arith}
use Rattle.doubles_patterns.specs.Patterns.{top_place, magnitude}
use Rattle.doubles_patterns.proofs.Signs.{signed, signs_alike, signs_unlike}
use Rattle.doubles_patterns.proofs.Magnitudes.{units_less}
use Rattle.doubles_sum.proofs.Sums.{sum_of_alike, sum_of_unlike, sum_of_equal}
use Rattle.doubles_sum.proofs.finite_sum.Goals as goal

pub returns-then-a-b : goal.returns-then-a-b
returns-then-a-b c =
    let a = c.args.a in
    let b = c.args.b in
    sum_of_alike a b _ (omega arith) (omega arith) (signs_alike a b (omega arith) (omega arith) (omega arith))
    (signed a _ _ (omega arith) c.magnitudes_added.ensures.0)

pub returns-then-o-p : goal.returns-then-o-p
returns-then-o-p c =
    let a = c.args.a in
    let b = c.args.b in
    let unlike = signs_unlike a b (omega arith) (omega arith) (λ (h : a / top_place ≡ b / top_place). omega arith) in
    sum_of_equal a b 0 (omega arith) (omega arith) unlike (omega arith) refl

pub returns-else-o-p : goal.returns-else-o-p
returns-else-o-p c =
    let a = c.args.a in
    let b = c.args.b in
    let unlike = signs_unlike a b (omega arith) (omega arith) (λ (h : a / top_place ≡ b / top_place). omega arith) in
    let less = units_less (magnitude a) (magnitude b) (omega arith) (omega arith) in
    sum_of_unlike a b _ (omega arith) (omega arith) unlike less (signed a _ _ (omega arith) c.magnitudes_subtracted.ensures.0)
