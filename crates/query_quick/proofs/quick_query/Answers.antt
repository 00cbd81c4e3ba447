-- 1 to 4 by the sizes and lengths, with nothing but zeros beside; past them the quick query of the four axes' points and modes, for
-- which `query_fits` gives what is required.
use mathlib.Core.Path.{refl, sym}
use Rattle.rules.proofs.Given.{err_given, number_some}
use Rattle.query_answer.proofs.Promised.{axes_of, query_fits}
use Rattle.query_quick.proofs.Answers.{sizes_answer}
use borrow.Author.Rules.{rules}
use Rattle.query_quick.proofs.quick_query.Goals as goal

pub returns-in_err-check_query_sizes : goal.returns-in_err-check_query_sizes
returns-in_err-check_query_sizes c =
    rw (err_given c.from_residual.result _ c.from_residual.ensures.1)
    (sizes_answer _ _ _ _ _ c.points_of-points.result c.points_of-points.ensures _
    c.in_err-check_query_sizes.ensures (number_some _) _ refl)

pub quick_query_of_points-requires : goal.quick_query_of_points-requires
quick_query_of_points-requires c =
    query_fits c.args.axes c.points_of-points.result c.modes_of-modes.result c.args.knots.now
    c.args.tensor.now c.args.coordinates.now (search rules) c.modes_of-modes.ensures.four
    (sym c.in_ok-check_query_sizes.ensures)

pub returns : goal.returns
returns c =
    let fits =
    query_fits c.args.axes c.points_of-points.result c.modes_of-modes.result c.args.knots.now
    c.args.tensor.now c.args.coordinates.now (search rules) c.modes_of-modes.ensures.four
    (sym c.in_ok-check_query_sizes.ensures) in
    c.quick_query_of_points.ensures c.args.all
    (axes_of _ _ c.points_of-points.result c.modes_of-modes.result fits.search_fits.in_range.few_axes
    c.points_of-points.ensures c.modes_of-modes.ensures)
