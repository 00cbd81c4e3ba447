-- The digits of both on the scale of the larger one: what stands for the smaller one is less (`less_of`), and the difference stands for
-- that of the units (`difference_is`).
use mathlib.Core.Path.{◌∙◌}
use native.Mathlib.Omega.{arith}
use Rattle.doubles_sum.proofs.Combined.{exponents_of, less_of, difference_is}
use Rattle.doubles_sum.proofs.magnitudes_subtracted.Goals as goal

pub overflow_sub-e : goal.overflow_sub-e
overflow_sub-e c = exponents_of _ _ _ _ c.exponent-e.ensures c.exponent-f.ensures (omega arith)

pub overflow_sub-p-2 : goal.overflow_sub-p-2
overflow_sub-p-2 c =
    let e = c.exponent-e.ensures in
    let l = less_of _ _ _ _ e c.exponent-f.ensures (omega arith) _ c.moved_down-aligned.ensures (omega arith) in
    omega (arith, l)

pub rounded-requires : goal.rounded-requires
rounded-requires c =
    let e = c.exponent-e.ensures in
    let l = less_of _ _ _ _ e c.exponent-f.ensures (omega arith) _ c.moved_down-aligned.ensures (omega arith) in
    (omega (arith, l), omega arith)

pub returns : goal.returns
returns c =
    let e = c.exponent-e.ensures in
    let f = c.exponent-f.ensures in
    (c.rounded.ensures.0 ∙ difference_is _ _ _ _ e f (omega arith) _ c.moved_down-aligned.ensures, c.rounded.ensures.1)
