-- A query's rows 7 and 8, the first that applies, or 0. That knots which pass 8 are finite, as the test for 7 requires, is
-- `points_finite`.
use mathlib.Core.Path.{refl}
use Rattle.rules.specs.Sizes.{place_of}
use Rattle.grid_checks.specs.Check.{knots_and_coordinates_check}
use Rattle.grid_checks.proofs.Rows.{stop, pass}
use Rattle.grid_checks.proofs.FiniteKnots.{points_finite}
use Rattle.grid_checks.proofs.check_knots_and_coordinates.Goals as goal

pub slices_refused-requires : goal.slices_refused-requires
slices_refused-requires c =
    points_finite c.args.axes (place_of c.args.points.now) c.args.knots.now c.requires.0 c.requires.2
    c.knots_of_points_refused-knots_refused.ensures

pub returns-then-slices_refused : goal.returns-then-slices_refused
unfolding knots_and_coordinates_check
returns-then-slices_refused c = stop _ c.slices_refused.ensures c.if-slices_refused.true

pub returns-then-knots_refused : goal.returns-then-knots_refused
unfolding knots_and_coordinates_check
returns-then-knots_refused c =
    pass _ c.slices_refused.ensures c.if-slices_refused.false
    (stop _ c.knots_of_points_refused-knots_refused.ensures c.if-knots_refused.true)

pub returns : goal.returns
unfolding knots_and_coordinates_check
returns c =
    pass _ c.slices_refused.ensures c.if-slices_refused.false
    (pass _ c.knots_of_points_refused-knots_refused.ensures c.if-knots_refused.false refl)
