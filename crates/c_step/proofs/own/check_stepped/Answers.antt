-- The rows of the axes, 4 for directions and slots and then for knots, samples and coordinates by the sizes found, 22 last. The rows passed
-- leave what the tests below them require: at most four axes, and four directions.
use mathlib.Core.Path.{◌≡◌, refl, sym, ◌∙◌}
use mathlib.Core.Bool.{◌||◌}
use lib.ListN.{length}
use Rattle.rules.specs.Sizes.{knots_length, samples_length}
use Rattle.rules.specs.Refusals.{length_refused}
use Rattle.grid.specs.GridOfCall.{points_of, InRange}
use Rattle.grid_checks.proofs.Rows.{first, second, stop, pass, Past}
use Rattle.step_checks.proofs.Samples.{samples_told}
use Rattle.c_axes.specs.Axes.{axes_without_ends}
use Rattle.c_refusals.specs.OwnRefusals.{sizes_given}
use Rattle.c_refusals.proofs.Rows.{axes_given, axes_pass, points_in_range}
use Rattle.c_step.specs.StepExports.{stepped_slots_refused, stepped_own_rows, stepped_own_refusal}
use Rattle.c_step.proofs.Lengths.{directions_four}
use Rattle.c_step.proofs.own.check_stepped.Goals as goal
use Rattle.c_step.proofs.own.check_stepped.Goals.{After-stepped_lengths_refused, In_ok-found, Else-stepped_lengths_refused}

past_axes : (c : In_ok-found) → Past ((stepped_own_rows c.args.axes c.args.points.now c.args.numbers.now c.args.knots.now c.args.samples.now
    c.args.coordinates.now c.args.value.now c.args.indices.now)) 4
past_axes c answer e = axes_pass _ _ c.in_ok-found.ensures.refusal _ refl e

range : (c : In_ok-found) → InRange c.args.axes (points_of (axes_without_ends c.args.axes c.args.points.now))
range c = points_in_range _ _ c.in_ok-found.ensures.refusal refl

-- the lengths that the sizes tell are those of the axes given
told : (c : After-stepped_lengths_refused) → let s =
    c.args in
    let sizes = sizes_given s.axes s.points.now in
    c.stepped_lengths_refused.result
    ≡ (
    stepped_slots_refused s.numbers.now s.value.now s.indices.now
    || (
    length_refused (length s.knots.now) (knots_length sizes) || length_refused (length s.samples.now) (samples_length sizes)
    || length_refused (length s.coordinates.now) s.axes
    )
    )
told c =
    let found = c.in_ok-found.ensures.sizes in
    second c.stepped_slots_refused.ensures c.if-stepped_slots_refused.false
    (rw (← found.knots, ← samples_told c.args.axes _ found.numbers) c.stepped_lengths_refused.ensures)

past_lengths : (c : Else-stepped_lengths_refused) → Past ((stepped_own_rows c.args.axes c.args.points.now c.args.numbers.now c.args.knots.now c.args.samples.now
    c.args.coordinates.now c.args.value.now c.args.indices.now)) 5
past_lengths c answer e = (axes_pass _ _ c.in_ok-found.ensures.refusal _ refl (pass _ ((let found = c.in_ok-found.ensures.sizes in
    second c.stepped_slots_refused.ensures c.if-stepped_slots_refused.false
    (rw (← found.knots, ← samples_told c.args.axes _ found.numbers) c.stepped_lengths_refused.ensures))) c.if-stepped_lengths_refused.false e))

pub returns-in_err-found : goal.returns-in_err-found
unfolding stepped_own_refusal
returns-in_err-found c =
    axes_given _ _ c.in_err-found.ensures.refusal c.from_residual.result _ refl c.from_residual.ensures.1 _

pub returns-then-stepped_slots_refused : goal.returns-then-stepped_slots_refused
unfolding stepped_own_refusal
returns-then-stepped_slots_refused c = past_axes (goal.at.returns-then-stepped_slots_refused c).In_ok-found _ (stop _ (first _ c.stepped_slots_refused.ensures c.if-stepped_slots_refused.true) refl)

pub stepped_lengths_refused-requires : goal.stepped_lengths_refused-requires
stepped_lengths_refused-requires c = (range (goal.at.stepped_lengths_refused-requires c).In_ok-found).few_axes

pub returns-then-stepped_lengths_refused : goal.returns-then-stepped_lengths_refused
unfolding stepped_own_refusal
returns-then-stepped_lengths_refused c = past_axes (goal.at.returns-then-stepped_lengths_refused c).In_ok-found _ (stop _ (told (goal.at.returns-then-stepped_lengths_refused c).After-stepped_lengths_refused) c.if-stepped_lengths_refused.true)

pub some_direction_refused-requires : goal.some_direction_refused-requires
some_direction_refused-requires c =
    let s = c.args in (
      (range (goal.at.some_direction_refused-requires c).In_ok-found).few_axes,
      directions_four s.numbers.now s.value.now s.indices.now
          (sym c.stepped_slots_refused.ensures ∙ c.if-stepped_slots_refused.false),
    )

pub returns-then-some_direction_refused : goal.returns-then-some_direction_refused
unfolding stepped_own_refusal
returns-then-some_direction_refused c = past_lengths (goal.at.returns-then-some_direction_refused c).Else-stepped_lengths_refused _ (stop _ c.some_direction_refused.ensures c.if-some_direction_refused.true)

pub returns : goal.returns
unfolding stepped_own_refusal
returns c = past_lengths (goal.at.returns c).Else-stepped_lengths_refused _ (pass _ c.some_direction_refused.ensures c.if-some_direction_refused.false refl)
