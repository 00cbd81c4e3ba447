-- NaN with a NaN, and for an infinity and zero (`product_invalid`); else an infinity with the product's sign (`product_special`).
use native.Mathlib.Omega.{arith}
use Rattle.doubles_product.proofs.Answers.{product_invalid, product_special}
use Rattle.doubles_product.proofs.infinite_product.Goals as goal

pub returns-then-o-eq0 : goal.returns-then-o-eq0
returns-then-o-eq0 c = product_invalid c.args.a c.args.b c.requires (λ pa pb some. grind arith)

pub returns-else-o-eq0 : goal.returns-else-o-eq0
returns-else-o-eq0 c =
    let a = c.args.a in
    let b = c.args.b in
    product_special a b _ c.sign_of.ensures.0 c.requires (omega arith) (omega arith) (omega arith) (omega arith)
