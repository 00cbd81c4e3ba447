-- Sizes and lengths that are not refused leave what the look at knots and samples requires, and with the number that it gives the answer
-- is the surface's.
use Rattle.step_checks.proofs.Accepted.{sizes_accepted}
use Rattle.step_surface.proofs.stepped_of_points.Goals as goal

pub check_knots_and_coordinates-met-requires : goal.check_knots_and_coordinates-met-requires
check_knots_and_coordinates-met-requires c =
    let sizes = sizes_accepted _ _ _ _ _ c.requires.none_refused in
    (sizes.0, c.requires.four_points, sizes.2)
