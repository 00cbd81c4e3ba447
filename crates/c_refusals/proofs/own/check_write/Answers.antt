-- A writer's own refusals: the rows of the axes, 4 for ends, modes and slot, knots and samples, then 13, then 22. What each test
-- requires (four points, axes in range, eight kinds, four modes) is left by the rows before it.
use mathlib.Core.Path.{refl, sym, ◌∙◌}
use Rattle.grid.specs.GridOfCall.{points_of, InRange}
use Rattle.grid_checks.proofs.Rows.{first, second, stop, pass, Past}
use Rattle.c_axes.specs.Axes.{axes_without_ends}
use Rattle.c_refusals.specs.OwnRefusals.{write_own_rows, write_own_refusal}
use Rattle.c_refusals.proofs.Rows.{axes_given, axes_pass, points_four, points_in_range}
use Rattle.c_refusals.proofs.Lengths.{eight_lengths, mode_slot_lengths}
use Rattle.c_refusals.proofs.own.check_write.Goals as goal
use Rattle.c_refusals.proofs.own.check_write.Goals.{Else-parts_refused, In_ok-check_axes, Else-some_kinds_refused}

past_axes : (c : In_ok-check_axes) → Past ((write_own_rows c.args.axes c.args.points.now c.args.kinds.now c.args.values.now c.args.modes.now
    c.args.knots.now c.args.samples.now c.args.length.now)) 4
past_axes c answer e = axes_pass _ _ c.in_ok-check_axes.ensures.refusal _ refl e

range : (c : In_ok-check_axes) → InRange c.args.axes (points_of (axes_without_ends c.args.axes c.args.points.now))
range c = points_in_range _ _ c.in_ok-check_axes.ensures.refusal refl

past_lengths : (c : Else-parts_refused) → Past ((write_own_rows c.args.axes c.args.points.now c.args.kinds.now c.args.values.now c.args.modes.now
    c.args.knots.now c.args.samples.now c.args.length.now)) 5
past_lengths c answer e =
    (axes_pass _ _ c.in_ok-check_axes.ensures.refusal _ refl (pass _ (second
    (second c.ends_refused.ensures c.if-ends_refused.false
    c.four_or_slot_refused.ensures)
    c.if-four_or_slot_refused.false
    (rw c.axes_without_ends-all.ensures at c.parts_refused.ensures))
    c.if-parts_refused.false e))

past_kinds : (c : Else-some_kinds_refused) → Past ((write_own_rows c.args.axes c.args.points.now c.args.kinds.now c.args.values.now c.args.modes.now
    c.args.knots.now c.args.samples.now c.args.length.now)) 6
past_kinds c answer e = ((axes_pass _ _ c.in_ok-check_axes.ensures.refusal _ refl (pass _ (second
    (second c.ends_refused.ensures c.if-ends_refused.false
    c.four_or_slot_refused.ensures)
    c.if-four_or_slot_refused.false
    (rw c.axes_without_ends-all.ensures at c.parts_refused.ensures))
    c.if-parts_refused.false (pass _ c.some_kinds_refused.ensures c.if-some_kinds_refused.false e))))

pub returns-in_err-check_axes : goal.returns-in_err-check_axes
unfolding write_own_refusal
returns-in_err-check_axes c =
    axes_given _ _ c.in_err-check_axes.ensures.refusal c.from_residual.result _ refl c.from_residual.ensures.1 _

pub returns-then-ends_refused : goal.returns-then-ends_refused
unfolding write_own_refusal
returns-then-ends_refused c = past_axes (goal.at.returns-then-ends_refused c).In_ok-check_axes _ (stop _ (first _ (first _ c.ends_refused.ensures c.if-ends_refused.true) refl) refl)

pub returns-then-four_or_slot_refused : goal.returns-then-four_or_slot_refused
unfolding write_own_refusal
returns-then-four_or_slot_refused c =
    past_axes (goal.at.returns-then-four_or_slot_refused c).In_ok-check_axes _
    (stop _
    (first _
    (second c.ends_refused.ensures c.if-ends_refused.false
    c.four_or_slot_refused.ensures)
    c.if-four_or_slot_refused.true)
    refl)

pub axes_without_ends-all-requires : goal.axes_without_ends-all-requires
axes_without_ends-all-requires c = points_four _ _ c.in_ok-check_axes.ensures.refusal refl

pub parts_refused-requires : goal.parts_refused-requires
parts_refused-requires c = rw c.axes_without_ends-all.ensures (range (goal.at.parts_refused-requires c).In_ok-check_axes)

pub returns-then-parts_refused : goal.returns-then-parts_refused
unfolding write_own_refusal
returns-then-parts_refused c =
    past_axes (goal.at.returns-then-parts_refused c).In_ok-check_axes _
    (stop _ (second
    (second c.ends_refused.ensures c.if-ends_refused.false
    c.four_or_slot_refused.ensures)
    c.if-four_or_slot_refused.false
    (rw c.axes_without_ends-all.ensures at c.parts_refused.ensures))
    c.if-parts_refused.true)

pub some_kinds_refused-requires : goal.some_kinds_refused-requires
some_kinds_refused-requires c = (
  (range (goal.at.some_kinds_refused-requires c).In_ok-check_axes).few_axes,
  (eight_lengths c.args.kinds.now c.args.values.now
      (sym c.ends_refused.ensures ∙ c.if-ends_refused.false)).0,
)

pub returns-then-some_kinds_refused : goal.returns-then-some_kinds_refused
unfolding write_own_refusal
returns-then-some_kinds_refused c = past_lengths (goal.at.returns-then-some_kinds_refused c).Else-parts_refused _ (stop _ c.some_kinds_refused.ensures c.if-some_kinds_refused.true)

pub some_modes_refused-requires : goal.some_modes_refused-requires
some_modes_refused-requires c = (
  (range (goal.at.some_modes_refused-requires c).In_ok-check_axes).few_axes,
  (mode_slot_lengths c.args.modes.now c.args.length.now
      (sym c.four_or_slot_refused.ensures ∙ c.if-four_or_slot_refused.false)).0,
)

pub returns-then-some_modes_refused : goal.returns-then-some_modes_refused
unfolding write_own_refusal
returns-then-some_modes_refused c = past_kinds (goal.at.returns-then-some_modes_refused c).Else-some_kinds_refused _ (stop _ c.some_modes_refused.ensures c.if-some_modes_refused.true)

pub returns : goal.returns
unfolding write_own_refusal
returns c = past_kinds (goal.at.returns c).Else-some_kinds_refused _ (pass _ c.some_modes_refused.ensures c.if-some_modes_refused.false refl)
