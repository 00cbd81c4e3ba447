-- Refused by the host, nothing is written (`none_written`); else each point has the answer of the direct query on the grid in its modes
-- (`each_direct`), which `points_fit` gives what is required for.
use mathlib.Core.Path.{refl, sym, ◌∙◌}
use Rattle.many_points.proofs.Answered.{none_written, all_written}
use Rattle.query_many.proofs.Answered.{each_direct}
use Rattle.c_query.proofs.Given.{axes_given}
use Rattle.c_many.proofs.Given.{few, points_fit}
use Rattle.c_many.proofs.direct_queries.Goals as goal

pub answer_each-requires : goal.answer_each-requires
answer_each-requires c = points_fit _ _ _ _ _ _ _ _ _ (sym c.in_default.ensures)

pub returns : goal.returns
returns c =
    let none = sym c.in_default.ensures in
    let s = c.args in
    let fit =
    points_fit s.axes s.points.now s.modes.now s.knots.now s.tensor.now s.coordinates.now s.values.now
    s.labels.now s.refusals.now none in
    let are =
    axes_given s.axes s.points.now s.modes.now
    (few s.axes s.points.now s.modes.now s.knots.now s.tensor.now s.coordinates.now s.values.now
    s.labels.now s.refusals.now none) in
    all_written _ s.axes s.coordinates.now _ _
    (each_direct s.axes s.points.now s.modes.now s.knots.now s.tensor.now s.coordinates.now _ are _ fit.fits)
    _ _ _ c.answer_each.ensures _ none _ _ _ refl
