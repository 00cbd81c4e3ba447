-- The sign is a minus where the signs of the two are unlike (`sign_unlike`), and none where they are alike (`sign_alike`).
use mathlib.Core.Path.{◌≡◌, sym}
use Prim.Native.Nat.{◌/◌}
use native.Mathlib.Omega.{arith}
use Rattle.doubles_patterns.specs.Patterns.{top_place}
use Rattle.doubles_patterns.proofs.Signs.{sign_alike, sign_unlike}
use Rattle.doubles_patterns.proofs.sign_of.Goals as goal

pub returns-then-a-b : goal.returns-then-a-b
returns-then-a-b c = (sym (sign_alike c.args.a c.args.b (omega arith) (omega arith) (omega arith)), omega arith)

pub returns-else-a-b : goal.returns-else-a-b
returns-else-a-b c =
    let a = c.args.a in
    let b = c.args.b in
    (sym (sign_unlike a b (omega arith) (omega arith) (λ (h : a / top_place ≡ b / top_place). omega arith)), omega arith)
