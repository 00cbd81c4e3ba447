-- The upper word of the product of the digits, moved up to the tops of their words, has 62 places below its highest (`product_large`), and
-- in its place it stands for the product of the units (`product_is`).
use mathlib.Core.Path.{◌∙◌}
use native.Mathlib.Omega.{arith}
use Rattle.doubles_product.proofs.Products.{product_large, product_is}
use Rattle.doubles_product.proofs.magnitudes_multiplied.Goals as goal

pub placed-requires : goal.placed-requires
placed-requires c = (product_large _ _ _ _ _ _ _ c.parts_of-first.ensures c.parts_of-second.ensures c.upper_product.ensures, omega arith)

pub returns : goal.returns
returns c =
    let is = product_is _ _ _ _ _ _ _ c.parts_of-first.ensures c.parts_of-second.ensures c.upper_product.ensures in
    (c.placed.ensures.0 ∙ is, c.placed.ensures.1)
