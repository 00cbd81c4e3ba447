-- The digits of both on the scale of the larger one: their sum stands for the sum of the units (`sum_is`), and has its highest digit in one
-- of the two top places unless the exponent is 0 (`sum_high`).
use mathlib.Core.Path.{◌∙◌}
use native.Mathlib.Omega.{arith}
use Rattle.doubles_sum.proofs.Combined.{exponents_of, aligned_most, sum_is, sum_high}
use Rattle.doubles_sum.proofs.magnitudes_added.Goals as goal

pub overflow_sub-e : goal.overflow_sub-e
overflow_sub-e c = exponents_of _ _ _ _ c.exponent-e.ensures c.exponent-f.ensures (omega arith)

pub overflow_add-p : goal.overflow_add-p
overflow_add-p c =
    let m =
    aligned_most _ _ _ _ c.exponent-e.ensures c.exponent-f.ensures (omega arith) _ c.moved_down-aligned.ensures in
    omega (arith, m)

pub top_rounded-requires : goal.top_rounded-requires
top_rounded-requires c =
    let e = c.exponent-e.ensures in
    let f = c.exponent-f.ensures in
    (sum_high _ _ _ _ e f (omega arith) _ c.moved_down-aligned.ensures, omega arith)

pub returns : goal.returns
returns c =
    let e = c.exponent-e.ensures in
    let f = c.exponent-f.ensures in
    (c.top_rounded.ensures.0 ∙ sum_is _ _ _ _ e f (omega arith) _ c.moved_down-aligned.ensures, c.top_rounded.ensures.1)
