-- The rows of the axes, then the lengths one after the other, told by the sizes found, and the modes last.
-- ---- the rows that were asked and do not apply
-- ---- the answers
use mathlib.Core.Path.{◌≡◌, refl, sym, ◌∙◌}
use lib.ListN.{length}
use Rattle.rules.specs.Sizes.{knots_length, tensor_length}
use Rattle.rules.specs.Refusals.{length_refused}
use Rattle.grid_checks.proofs.Rows.{stop, pass, Past, exact}
use Rattle.c_refusals.specs.OwnRefusals.{sizes_given}
use Rattle.c_refusals.proofs.Rows.{axes_given, axes_pass, points_in_range}
use Rattle.c_many.specs.ManyExports.{queries_own_rows, queries_own_refusal}
use Rattle.c_many.proofs.own.check_queries.Goals as goal
use Rattle.c_many.proofs.own.check_queries.Goals.{After-length_refused-2, After-length_refused-3, In_ok-found, Else-length_refused, Else-length_refused-2, Else-length_refused-3, Else-points_lengths_refused}

past_axes : (c : In_ok-found) → Past ((let given = c.args in
    queries_own_rows given.axes given.points.now given.modes.now given.knots.now given.tensor.now
    given.coordinates.now given.values.now given.labels.now given.refusals.now)) 4
past_axes c answer e = axes_pass _ _ c.in_ok-found.ensures.refusal _ refl e

past_modes : (c : Else-length_refused) → Past ((let given = c.args in
    queries_own_rows given.axes given.points.now given.modes.now given.knots.now given.tensor.now
    given.coordinates.now given.values.now given.labels.now given.refusals.now)) 5
past_modes c answer e = (axes_pass _ _ c.in_ok-found.ensures.refusal _ refl (pass _ c.length_refused.ensures c.if-length_refused.false e))

-- the lengths that the sizes tell are those of the axes given
knots_told : (c : After-length_refused-2) → let given =
    c.args in
    c.length_refused-2.result ≡ length_refused (length given.knots.now) (knots_length (sizes_given given.axes given.points.now))
knots_told c =
    rw (← c.in_ok-found.ensures.sizes.knots) c.length_refused-2.ensures

past_knots : (c : Else-length_refused-2) → Past ((let given = c.args in
    queries_own_rows given.axes given.points.now given.modes.now given.knots.now given.tensor.now
    given.coordinates.now given.values.now given.labels.now given.refusals.now)) 6
past_knots c answer e = ((axes_pass _ _ c.in_ok-found.ensures.refusal _ refl (pass _ c.length_refused.ensures c.if-length_refused.false (pass {b = length_refused (length c.args.knots.now) (knots_length (sizes_given c.args.axes c.args.points.now))} _ ((rw (← c.in_ok-found.ensures.sizes.knots) c.length_refused-2.ensures)) c.if-length_refused-2.false e))))

numbers_told : (c : After-length_refused-3) → let given =
    c.args in
    c.length_refused-3.result
    ≡ length_refused (length given.tensor.now) (tensor_length (sizes_given given.axes given.points.now))
numbers_told c =
    rw (← c.in_ok-found.ensures.sizes.numbers) c.length_refused-3.ensures

past_tensor : (c : Else-length_refused-3) → Past ((let given = c.args in
    queries_own_rows given.axes given.points.now given.modes.now given.knots.now given.tensor.now
    given.coordinates.now given.values.now given.labels.now given.refusals.now)) 7
past_tensor c answer e = (((axes_pass _ _ c.in_ok-found.ensures.refusal _ refl (pass _ c.length_refused.ensures c.if-length_refused.false (pass {b = length_refused (length c.args.knots.now) (knots_length (sizes_given c.args.axes c.args.points.now))} _ ((rw (← c.in_ok-found.ensures.sizes.knots) c.length_refused-2.ensures)) c.if-length_refused-2.false (pass {b = length_refused (length c.args.tensor.now) (tensor_length (sizes_given c.args.axes c.args.points.now))} _ ((rw (← c.in_ok-found.ensures.sizes.numbers) c.length_refused-3.ensures)) c.if-length_refused-3.false e))))))

past_points : (c : Else-points_lengths_refused) → Past ((let given = c.args in
    queries_own_rows given.axes given.points.now given.modes.now given.knots.now given.tensor.now
    given.coordinates.now given.values.now given.labels.now given.refusals.now)) 8
past_points c answer e = ((((axes_pass _ _ c.in_ok-found.ensures.refusal _ refl (pass _ c.length_refused.ensures c.if-length_refused.false (pass {b = length_refused (length c.args.knots.now) (knots_length (sizes_given c.args.axes c.args.points.now))} _ ((rw (← c.in_ok-found.ensures.sizes.knots) c.length_refused-2.ensures)) c.if-length_refused-2.false (pass {b = length_refused (length c.args.tensor.now) (tensor_length (sizes_given c.args.axes c.args.points.now))} _ ((rw (← c.in_ok-found.ensures.sizes.numbers) c.length_refused-3.ensures)) c.if-length_refused-3.false (pass _ c.points_lengths_refused.ensures c.if-points_lengths_refused.false e))))))))

pub returns-in_err-found : goal.returns-in_err-found
unfolding queries_own_refusal
returns-in_err-found c =
    axes_given _ _ c.in_err-found.ensures.refusal c.from_residual.result _ refl c.from_residual.ensures.1 _

pub returns-then-length_refused : goal.returns-then-length_refused
unfolding queries_own_refusal
returns-then-length_refused c = past_axes (goal.at.returns-then-length_refused c).In_ok-found _ (stop _ c.length_refused.ensures c.if-length_refused.true)

pub returns-then-length_refused-2 : goal.returns-then-length_refused-2
unfolding queries_own_refusal
returns-then-length_refused-2 c = past_modes (goal.at.returns-then-length_refused-2 c).Else-length_refused _ (stop _ (knots_told (goal.at.returns-then-length_refused-2 c).After-length_refused-2) c.if-length_refused-2.true)

pub returns-then-length_refused-3 : goal.returns-then-length_refused-3
unfolding queries_own_refusal
returns-then-length_refused-3 c = past_knots (goal.at.returns-then-length_refused-3 c).Else-length_refused-2 _ (stop _ (numbers_told (goal.at.returns-then-length_refused-3 c).After-length_refused-3) c.if-length_refused-3.true)

pub points_lengths_refused-requires : goal.points_lengths_refused-requires
points_lengths_refused-requires c = (points_in_range _ _ c.in_ok-found.ensures.refusal refl).some_axes

pub returns-then-points_lengths_refused : goal.returns-then-points_lengths_refused
unfolding queries_own_refusal
returns-then-points_lengths_refused c = past_tensor (goal.at.returns-then-points_lengths_refused c).Else-length_refused-3 _ (stop _ c.points_lengths_refused.ensures c.if-points_lengths_refused.true)

pub some_modes_refused-requires : goal.some_modes_refused-requires
some_modes_refused-requires c = (
  (points_in_range _ _ c.in_ok-found.ensures.refusal refl).few_axes,
  exact _ 4 (sym c.length_refused.ensures ∙ c.if-length_refused.false),
)

pub returns-then-some_modes_refused : goal.returns-then-some_modes_refused
unfolding queries_own_refusal
returns-then-some_modes_refused c = past_points (goal.at.returns-then-some_modes_refused c).Else-points_lengths_refused _ (stop _ c.some_modes_refused.ensures c.if-some_modes_refused.true)

pub returns : goal.returns
unfolding queries_own_refusal
returns c = past_points (goal.at.returns c).Else-points_lengths_refused _ (pass _ c.some_modes_refused.ensures c.if-some_modes_refused.false refl)
