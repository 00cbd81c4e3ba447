-- 1 to 4 by sizes and lengths, and then nothing is written (`none_written`); past them each point has the way's answer on these axes, which
-- `points_fit` gives what is required for.
use mathlib.Core.Path.{refl, sym}
use Rattle.rules.proofs.Given.{err_given, number_some}
use Rattle.many_points.proofs.Answered.{none_written, all_written}
use Rattle.query_answer.proofs.Promised.{axes_of}
use Rattle.query_many.proofs.Refusing.{refusal_met, few, points_fit}
use borrow.Author.Rules.{rules}
use Rattle.query_many.proofs.queries.Goals as goal

pub returns-in_err-check_queries : goal.returns-in_err-check_queries
returns-in_err-check_queries c =
    λ answers are.
    rw (err_given c.from_residual.result _ c.from_residual.ensures.1)
    (none_written _ _ _ _ _
    (refusal_met _ _ _ _ _ _ _ _ c.points_of-points.result c.points_of-points.ensures c.in_err-check_queries.ensures)
    (number_some _))

pub answer_each-requires : goal.answer_each-requires
answer_each-requires c =
    points_fit c.args.axes c.points_of-points.result c.modes_of-modes.result c.args.knots.now
    c.args.tensor.now c.args.coordinates.now c.args.values.now c.args.labels.now
    c.args.refusals.now (search rules) c.modes_of-modes.ensures.four
    (sym c.in_ok-check_queries.ensures)

pub returns : goal.returns
returns c =
    λ answers are.
    let points = c.points_of-points.result in
    let modes = c.modes_of-modes.result in
    let none = sym c.in_ok-check_queries.ensures in
    let fit =
    points_fit c.args.axes points modes c.args.knots.now c.args.tensor.now c.args.coordinates.now
    c.args.values.now c.args.labels.now c.args.refusals.now (search rules) c.modes_of-modes.ensures.four
    none in
    let most =
    few c.args.axes points modes c.args.knots.now c.args.tensor.now c.args.coordinates.now
    c.args.values.now c.args.labels.now c.args.refusals.now (search rules) c.modes_of-modes.ensures.four
    none in
    let of_axes = axes_of _ _ points modes most c.points_of-points.ensures c.modes_of-modes.ensures in
    all_written _ c.args.axes c.args.coordinates.now _ _ (are points modes of_axes fit.fits)
    _ _ _ c.answer_each.ensures _
    (sym (refusal_met _ _ _ _ _ _ _ _ points c.points_of-points.ensures c.in_ok-check_queries.ensures))
    _ _ _ refl
