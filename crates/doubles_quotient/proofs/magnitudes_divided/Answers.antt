-- The quotient of the digits has 55 or 56 places (`quotient_large`, `quotient_small`), and in its place it stands for the quotient of the
-- units (`quotient_is`).
use mathlib.Core.Path.{◌∙◌}
use native.Mathlib.Omega.{arith}
use Rattle.doubles_patterns.proofs.Magnitudes.{units_some}
use Rattle.doubles_quotient.proofs.Quotients.{quotient_large, quotient_small, quotient_is}
use Rattle.doubles_quotient.proofs.magnitudes_divided.Goals as goal

pub overflow_mul-long_division : goal.overflow_mul-long_division
overflow_mul-long_division c = omega (arith, quotient_small _ _ _ _ _ _ _ c.parts_of-first.ensures c.parts_of-second.ensures c.long_division.ensures)

pub placed-requires : goal.placed-requires
placed-requires c =
    let l = quotient_large _ _ _ _ _ _ _ c.parts_of-first.ensures c.parts_of-second.ensures c.long_division.ensures in
    (omega (arith, l), omega arith)

pub returns : goal.returns
returns c =
    let some = units_some c.args.o (omega arith) (omega arith) in
    let is = quotient_is _ _ _ _ _ _ _ c.parts_of-first.ensures c.parts_of-second.ensures c.long_division.ensures some in
    (c.placed.ensures.0 ∙ is, c.placed.ensures.1)
