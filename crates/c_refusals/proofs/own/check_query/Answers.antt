-- A number of the axes is the answer; where there is none, the later rows answer, and by `later_of_sizes` the rows by the sizes found
-- are those by the points.
use mathlib.Core.Path.{refl}
use Rattle.c_refusals.specs.OwnRefusals.{query_own_refusal}
use Rattle.c_refusals.proofs.Rows.{axes_given, axes_pass, points_in_range, later_of_sizes}
use Rattle.c_refusals.proofs.own.check_query.Goals as goal

pub returns-in_err-found : goal.returns-in_err-found
unfolding query_own_refusal
returns-in_err-found c =
    axes_given _ _ c.in_err-found.ensures.refusal c.from_residual.result _ refl c.from_residual.ensures.1 _

pub check_query_later-requires : goal.check_query_later-requires
check_query_later-requires c = (points_in_range _ _ c.in_ok-found.ensures.refusal refl).few_axes

pub returns : goal.returns
unfolding query_own_refusal
returns c =
    let s = c.args in
    axes_pass _ _ c.in_ok-found.ensures.refusal _ refl
    (later_of_sizes s.axes s.points.now c.in_ok-found.ensures.sizes s.modes.now s.knots.now
    s.tensor.now s.coordinates.now s.value.now s.labels.now c.check_query_later.ensures)
