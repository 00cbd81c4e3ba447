-- Two normal numbers have the product of their magnitudes with its sign (`product_signed`); all others are left to `other_product`.
use native.Mathlib.Omega.{arith}
use Rattle.doubles_product.proofs.Answers.{product_signed}
use Rattle.doubles_product.proofs.product.Goals as goal

pub normals_multiplied-requires : goal.normals_multiplied-requires
normals_multiplied-requires c = c.both_normal.ensures c.if-both_normal.true

pub returns-then-both_normal : goal.returns-then-both_normal
returns-then-both_normal c =
    let normal = c.both_normal.ensures c.if-both_normal.true in
    let a = c.args.a in
    let b = c.args.b in
    let first = normal.1 in
    let second = normal.3 in
    product_signed a b _ c.sign_of.ensures.0 _ (omega (arith, first)) (omega (arith, second))
    c.normals_multiplied.ensures.0
