-- 1 to 4 of the axes, the knots and the tensor, which some axis is left by, and then 4 of what is lent of the points.
use mathlib.Core.Path.{refl}
use Rattle.rules.proofs.Given.{err_given, number_some}
use Rattle.grid_checks.proofs.Rows.{stop, pass}
use Rattle.many_points.proofs.InTurn.{sizes_stop, sizes_pass}
use Rattle.query_many.proofs.Refusing.{some_axes}
use Rattle.query_many.proofs.check_queries.Goals as goal

pub returns-in_err-check_query_sizes : goal.returns-in_err-check_query_sizes
returns-in_err-check_query_sizes c =
    rw (err_given c.from_residual.result _ c.from_residual.ensures.1) (sizes_stop _ c.in_err-check_query_sizes.ensures (number_some _))

pub points_lengths_refused-requires : goal.points_lengths_refused-requires
points_lengths_refused-requires c = some_axes _ _ _ _ _ c.in_ok-check_query_sizes.ensures refl

pub returns-then-points_lengths_refused : goal.returns-then-points_lengths_refused
returns-then-points_lengths_refused c =
    sizes_pass _ c.in_ok-check_query_sizes.ensures refl (stop _ c.points_lengths_refused.ensures c.if-points_lengths_refused.true)

pub returns : goal.returns
returns c =
    sizes_pass _ c.in_ok-check_query_sizes.ensures refl (pass _ c.points_lengths_refused.ensures c.if-points_lengths_refused.false refl)
