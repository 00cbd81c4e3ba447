-- Zero times a finite number is zero (`product_one_zero`); else the magnitudes are multiplied. The sign is a minus where the signs are
-- unlike.
use native.Mathlib.Omega.{arith}
use Rattle.doubles_product.proofs.Answers.{product_signed, product_nothing, product_one_zero}
use Rattle.doubles_product.proofs.finite_product.Goals as goal

pub returns-then-o-eq0 : goal.returns-then-o-eq0
returns-then-o-eq0 c =
    let a = c.args.a in
    let b = c.args.b in
    product_nothing a b _ c.sign_of.ensures.0 (omega arith) (omega arith) (product_one_zero _ _ (λ some. grind arith))

pub returns-else-o-eq0 : goal.returns-else-o-eq0
returns-else-o-eq0 c =
    let a = c.args.a in
    let b = c.args.b in
    product_signed a b _ c.sign_of-else-o-eq0.ensures.0 _ (omega arith) (omega arith) c.magnitudes_multiplied.ensures.0
