use mathlib.Core.Path.{◌≡◌, ap, ◌∙◌}
use native.Mathlib.Omega.{arith}
use lib.ListN.{length}
use Rattle.tensor_verify.specs.Verify.{count_that}
use Rattle.tensor_verify.proofs.Numbers.{count_none, count_more, count_fits, ours_finite, others_finite}
use Rattle.tensor_verify.proofs.compared.count_differing.Goals as goal

pub loop-i-init : goal.loop-i-init
loop-i-init c = count_none _

pub bounds-others-i : goal.bounds-others-i
bounds-others-i c = omega (arith, c.requires.same_length)

pub one_if_differs-count-requires : goal.one_if_differs-count-requires
one_if_differs-count-requires c = (ours_finite _ _ c.requires _ (omega arith), others_finite _ _ c.requires _ (omega arith))

pub overflow_add-count : goal.overflow_add-count
overflow_add-count c =
    omega (arith, count_fits _ _ _ _ c.loop-i.invariant c.one_if_differs-count.ensures)

pub loop-i-preserved : goal.loop-i-preserved
loop-i-preserved c = count_more _ _ _ _ c.loop-i.invariant c.one_if_differs-count.ensures

pub returns : goal.returns
returns c =
    let all : c.loop-i.i ≡ length c.args.ours.now = omega arith in
    c.loop-i.invariant ∙ ap (count_that _) all
