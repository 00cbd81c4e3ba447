-- The rows of the axes, then the lengths one after the other, those of knots and samples told by the sizes found, and the directions last.
-- ---- the rows that were asked and do not apply
-- ---- the answers
use mathlib.Core.Path.{◌≡◌, refl, sym, ◌∙◌}
use mathlib.Core.Bool.{◌||◌}
use lib.ListN.{length}
use Rattle.rules.specs.Sizes.{knots_length, samples_length}
use Rattle.rules.specs.Refusals.{length_refused}
use Rattle.grid.specs.GridOfCall.{points_of, InRange}
use Rattle.grid_checks.proofs.Rows.{stop, pass, Past, length_fits, exact}
use Rattle.step_checks.proofs.Samples.{samples_told}
use Rattle.c_axes.specs.Axes.{axes_without_ends}
use Rattle.c_refusals.specs.OwnRefusals.{sizes_given}
use Rattle.c_refusals.proofs.Rows.{axes_given, axes_pass, points_in_range}
use Rattle.c_step_many.specs.ManyStepExports.{many_own_rows, many_own_refusal}
use Rattle.c_step_many.proofs.Given.{two_of_three}
use Rattle.c_step_many.proofs.own.check_many.Goals as goal
use Rattle.c_step_many.proofs.own.check_many.Goals.{After-stepped_lengths_refused, In_ok-found, Else-length_refused, Else-points_lengths_refused, Else-stepped_lengths_refused}

past_axes : (c : In_ok-found) → Past ((let given = c.args in
    many_own_rows given.axes given.points.now given.numbers.now given.knots.now given.samples.now
    given.coordinates.now given.values.now given.indices.now given.refusals.now)) 4
past_axes c answer e = axes_pass _ _ c.in_ok-found.ensures.refusal _ refl e

range : (c : In_ok-found) → InRange c.args.axes (points_of (axes_without_ends c.args.axes c.args.points.now))
range c = points_in_range _ _ c.in_ok-found.ensures.refusal refl

past_directions : (c : Else-length_refused) → Past ((let given = c.args in
    many_own_rows given.axes given.points.now given.numbers.now given.knots.now given.samples.now
    given.coordinates.now given.values.now given.indices.now given.refusals.now)) 5
past_directions c answer e = (axes_pass _ _ c.in_ok-found.ensures.refusal _ refl (pass _ c.length_refused.ensures c.if-length_refused.false e))

-- the lengths that the sizes tell are those of the axes given
told : (c : After-stepped_lengths_refused) → let given =
    c.args in
    let sizes = sizes_given given.axes given.points.now in
    c.stepped_lengths_refused.result
    ≡ (length_refused (length given.knots.now) (knots_length sizes)
    || length_refused (length given.samples.now) (samples_length sizes))
told c =
    let found = c.in_ok-found.ensures.sizes in
    let given = c.args in
    let sizes = sizes_given given.axes given.points.now in
    let knots = length_refused (length given.knots.now) (knots_length sizes) in
    let samples = length_refused (length given.samples.now) (samples_length sizes) in
    let three : c.stepped_lengths_refused.result ≡ (knots || samples || length_refused given.axes given.axes) =
    rw (← found.knots, ← samples_told given.axes _ found.numbers) c.stepped_lengths_refused.ensures in
    three ∙ two_of_three knots samples (length_refused given.axes given.axes) (length_fits given.axes given.axes refl)

past_lengths : (c : Else-stepped_lengths_refused) → Past ((let given = c.args in
    many_own_rows given.axes given.points.now given.numbers.now given.knots.now given.samples.now
    given.coordinates.now given.values.now given.indices.now given.refusals.now)) 6
past_lengths c answer e = ((axes_pass _ _ c.in_ok-found.ensures.refusal _ refl (pass _ c.length_refused.ensures c.if-length_refused.false (pass _ ((let found = c.in_ok-found.ensures.sizes in
    let given = c.args in
    let sizes = sizes_given given.axes given.points.now in
    let knots = length_refused (length given.knots.now) (knots_length sizes) in
    let samples = length_refused (length given.samples.now) (samples_length sizes) in
    let three : c.stepped_lengths_refused.result ≡ (knots || samples || length_refused given.axes given.axes) =
    rw (← found.knots, ← samples_told given.axes _ found.numbers) c.stepped_lengths_refused.ensures in
    three ∙ two_of_three knots samples (length_refused given.axes given.axes) (length_fits given.axes given.axes refl))) c.if-stepped_lengths_refused.false e))))

past_points : (c : Else-points_lengths_refused) → Past ((let given = c.args in
    many_own_rows given.axes given.points.now given.numbers.now given.knots.now given.samples.now
    given.coordinates.now given.values.now given.indices.now given.refusals.now)) 7
past_points c answer e = (((axes_pass _ _ c.in_ok-found.ensures.refusal _ refl (pass _ c.length_refused.ensures c.if-length_refused.false (pass _ ((let found = c.in_ok-found.ensures.sizes in
    let given = c.args in
    let sizes = sizes_given given.axes given.points.now in
    let knots = length_refused (length given.knots.now) (knots_length sizes) in
    let samples = length_refused (length given.samples.now) (samples_length sizes) in
    let three : c.stepped_lengths_refused.result ≡ (knots || samples || length_refused given.axes given.axes) =
    rw (← found.knots, ← samples_told given.axes _ found.numbers) c.stepped_lengths_refused.ensures in
    three ∙ two_of_three knots samples (length_refused given.axes given.axes) (length_fits given.axes given.axes refl))) c.if-stepped_lengths_refused.false (pass _ c.points_lengths_refused.ensures c.if-points_lengths_refused.false e))))))

pub returns-in_err-found : goal.returns-in_err-found
unfolding many_own_refusal
returns-in_err-found c =
    axes_given _ _ c.in_err-found.ensures.refusal c.from_residual.result _ refl c.from_residual.ensures.1 _

pub returns-then-length_refused : goal.returns-then-length_refused
unfolding many_own_refusal
returns-then-length_refused c = past_axes (goal.at.returns-then-length_refused c).In_ok-found _ (stop _ c.length_refused.ensures c.if-length_refused.true)

pub stepped_lengths_refused-requires : goal.stepped_lengths_refused-requires
stepped_lengths_refused-requires c = (range (goal.at.stepped_lengths_refused-requires c).In_ok-found).few_axes

pub returns-then-stepped_lengths_refused : goal.returns-then-stepped_lengths_refused
unfolding many_own_refusal
returns-then-stepped_lengths_refused c = past_directions (goal.at.returns-then-stepped_lengths_refused c).Else-length_refused _ (stop _ (told (goal.at.returns-then-stepped_lengths_refused c).After-stepped_lengths_refused) c.if-stepped_lengths_refused.true)

pub points_lengths_refused-requires : goal.points_lengths_refused-requires
points_lengths_refused-requires c = (range (goal.at.points_lengths_refused-requires c).In_ok-found).some_axes

pub returns-then-points_lengths_refused : goal.returns-then-points_lengths_refused
unfolding many_own_refusal
returns-then-points_lengths_refused c = past_lengths (goal.at.returns-then-points_lengths_refused c).Else-stepped_lengths_refused _ (stop _ c.points_lengths_refused.ensures c.if-points_lengths_refused.true)

pub some_direction_refused-requires : goal.some_direction_refused-requires
some_direction_refused-requires c = (
  (range (goal.at.some_direction_refused-requires c).In_ok-found).few_axes,
  exact _ 4 (sym c.length_refused.ensures ∙ c.if-length_refused.false),
)

pub returns-then-some_direction_refused : goal.returns-then-some_direction_refused
unfolding many_own_refusal
returns-then-some_direction_refused c = past_points (goal.at.returns-then-some_direction_refused c).Else-points_lengths_refused _ (stop _ c.some_direction_refused.ensures c.if-some_direction_refused.true)

pub returns : goal.returns
unfolding many_own_refusal
returns c = past_points (goal.at.returns c).Else-points_lengths_refused _ (pass _ c.some_direction_refused.ensures c.if-some_direction_refused.false refl)
