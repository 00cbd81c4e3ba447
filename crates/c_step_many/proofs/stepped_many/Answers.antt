-- Refused by the host, nothing is written (`none_written`); else each point has the answer of the stepped surface in the directions given
-- (`each_stepped`), which `all_fit` gives what is required for.
use mathlib.Core.Path.{refl, sym, ◌∙◌}
use Rattle.many_points.proofs.Answered.{none_written, all_written}
use Rattle.step_many.specs.StepByStep.{SteppedAmong}
use Rattle.c_step_many.proofs.Given.{four_directions, all_fit, each_stepped}
use Rattle.c_step_many.proofs.stepped_many.Goals as goal

pub directions_given-given-requires : goal.directions_given-given-requires
directions_given-given-requires c =
    let s = c.args in
    four_directions s.axes s.points.now s.directions.now s.knots.now s.samples.now s.coordinates.now s.values.now
    s.indices.now s.refusals.now (sym c.in_default.ensures)

pub answer_each-requires : goal.answer_each-requires
answer_each-requires c =
    let s = c.args in
    all_fit s.axes s.points.now s.directions.now s.knots.now s.samples.now s.coordinates.now s.values.now
    s.indices.now s.refusals.now (sym c.in_default.ensures)

pub returns : goal.returns
returns c =
    let none = sym c.in_default.ensures in
    let s = c.args in
    all_written
    (SteppedAmong s.axes s.points.now c.directions_given-given.result s.knots.now s.samples.now)
    s.axes s.coordinates.now _ _
    (each_stepped s.axes s.points.now s.directions.now s.knots.now s.samples.now s.coordinates.now s.values.now
    s.indices.now s.refusals.now none _ c.directions_given-given.ensures _)
    _ _ _ c.answer_each.ensures _ none _ _ _ refl
