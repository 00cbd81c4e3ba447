-- The parts of normal magnitudes stand in their patterns (`raised_normal`); their product is that of `magnitudes_multiplied`
-- (`product_is`), and where it is normal nothing is moved down (`place_above`).
use mathlib.Core.Path.{sym, ◌∙◌}
use Prim.Native.Nat.{◌+◌, ◌/◌}
use native.Mathlib.Omega.{arith}
use lib.Dec.{lit<}
use lib.Ieee.{binary64}
use Rattle.doubles_patterns.specs.Patterns.{leading}
use Rattle.doubles_patterns.proofs.Magnitudes.{raised_normal}
use Rattle.doubles_rounding.proofs.Placing.{place_above}
use Rattle.doubles_product.proofs.Products.{product_large, product_is}
use Rattle.doubles_product.proofs.normals_multiplied.Goals as goal

pub top_rounded-requires : goal.top_rounded-requires
top_rounded-requires c =
    let a = raised_normal c.args.p (omega arith) (omega arith) in
    let b = raised_normal c.args.o (omega arith) (omega arith) in
    let l = product_large _ _ _ _ _ _ _ a b c.upper_product-upper.ensures in
    (λ h. l, omega arith)

pub placed-requires : goal.placed-requires
placed-requires c =
    let a = raised_normal c.args.p (omega arith) (omega arith) in
    let b = raised_normal c.args.o (omega arith) (omega arith) in
    (product_large _ _ _ _ _ _ _ a b c.upper_product-upper.ensures, omega arith)

pub returns-then-exponent-ge1126 : goal.returns-then-exponent-ge1126
returns-then-exponent-ge1126 c =
    let a = raised_normal c.args.p (omega arith) (omega arith) in
    let b = raised_normal c.args.o (omega arith) (omega arith) in
    let exponent = c.args.p / leading + 51 + (c.args.o / leading + 51) in
    let up = sym (place_above binary64 c.upper_product-upper.result 1024 exponent 1126 (lit< tt) (omega arith)) in
    (c.top_rounded.ensures.0 ∙ up ∙ product_is _ _ _ _ _ _ _ a b c.upper_product-upper.ensures, c.top_rounded.ensures.1)

pub returns-else-exponent-ge1126 : goal.returns-else-exponent-ge1126
returns-else-exponent-ge1126 c =
    let a = raised_normal c.args.p (omega arith) (omega arith) in
    let b = raised_normal c.args.o (omega arith) (omega arith) in
    (c.placed.ensures.0 ∙ product_is _ _ _ _ _ _ _ a b c.upper_product-upper.ensures, c.placed.ensures.1)
