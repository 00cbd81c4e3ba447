-- 1 to 4 by sizes and lengths, and then nothing is written (`none_written`); past them each point has the answer of the stepped surface of
-- these axes, whose points were taken out of them.
use mathlib.Core.Path.{refl, sym, ap, ◌∙◌}
use Prim.Native.Nat.{ℕ}
use Rattle.rules.proofs.Given.{err_given, number_some}
use Rattle.many_points.proofs.Answered.{none_written, all_written}
use Rattle.step_many.specs.StepByStep.{SteppedAmong}
use Rattle.step_many.proofs.Refusing.{refusal_met, both_pass}
use borrow.Author.Rules.{rules}
use Rattle.step_many.proofs.stepped_many.Goals as goal

pub returns-in_err-check_many : goal.returns-in_err-check_many
returns-in_err-check_many c =
    rw (err_given c.from_residual.result _ c.from_residual.ensures.1)
    (none_written _ _ _ _ _
    (refusal_met _ _ _ _ _ _ _ _ _ c.points_of-points.result c.points_of-points.ensures
    c.in_err-check_many.ensures)
    (number_some _))

pub answer_each-requires : goal.answer_each-requires
answer_each-requires c =
    let both =
    both_pass c.args.axes c.points_of-points.result c.args.knots.now c.args.samples.now
    c.args.coordinates.now c.args.values.now c.args.indices.now c.args.refusals.now
    (sym c.in_ok-check_many.ensures) in
    (search rules, both.0, both.1)

pub returns : goal.returns
returns c =
    let points = c.points_of-points.result in
    all_written (SteppedAmong c.args.axes points c.args.directions c.args.knots.now c.args.samples.now)
    c.args.axes c.args.coordinates.now _ _
    (λ j l r among. among c.args.all (λ i h. ap (λ (n : ℕ → ℕ). n i) (sym c.points_of-points.ensures)))
    _ _ _ c.answer_each.ensures _
    (sym (refusal_met _ _ _ _ _ _ _ _ _ points c.points_of-points.ensures c.in_ok-check_many.ensures))
    _ _ _ refl
