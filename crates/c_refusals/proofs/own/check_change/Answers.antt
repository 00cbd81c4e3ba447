-- A change's own refusals are the rows of its table: after the axes one 4 for the ends, for the place or the slot of the count, and
-- for knots and tensor, whichever of the three tests meets it; and 13 last.
use mathlib.Core.Path.{refl, sym, ◌∙◌}
use Rattle.grid.specs.GridOfCall.{points_of, InRange}
use Rattle.grid_checks.proofs.Rows.{first, second, stop, pass, Past}
use Rattle.c_axes.specs.Axes.{axes_without_ends}
use Rattle.c_refusals.specs.OwnRefusals.{change_own_rows, change_own_refusal}
use Rattle.c_refusals.proofs.Rows.{axes_given, axes_pass, points_four, points_in_range}
use Rattle.c_refusals.proofs.Lengths.{eight_lengths}
use Rattle.c_refusals.proofs.own.check_change.Goals as goal
use Rattle.c_refusals.proofs.own.check_change.Goals.{Else-change_refused, In_ok-check_axes}

past_axes : (c : In_ok-check_axes) → Past ((change_own_rows c.args.axes c.args.points.now c.args.kinds.now c.args.values.now c.args.knots.now
    c.args.tensor.now c.args.place.now c.args.lanes.now)) 4
past_axes c answer e = axes_pass _ _ c.in_ok-check_axes.ensures.refusal _ refl e

range : (c : In_ok-check_axes) → InRange c.args.axes (points_of (axes_without_ends c.args.axes c.args.points.now))
range c = points_in_range _ _ c.in_ok-check_axes.ensures.refusal refl

past_lengths : (c : Else-change_refused) → Past ((change_own_rows c.args.axes c.args.points.now c.args.kinds.now c.args.values.now c.args.knots.now
    c.args.tensor.now c.args.place.now c.args.lanes.now)) 5
past_lengths c answer e =
    (axes_pass _ _ c.in_ok-check_axes.ensures.refusal _ refl (pass _ (second
    (second c.ends_refused.ensures c.if-ends_refused.false
    c.four_or_slot_refused.ensures)
    c.if-four_or_slot_refused.false
    (rw c.axes_without_ends-all.ensures at c.change_refused.ensures))
    c.if-change_refused.false e))

pub returns-in_err-check_axes : goal.returns-in_err-check_axes
unfolding change_own_refusal
returns-in_err-check_axes c =
    axes_given _ _ c.in_err-check_axes.ensures.refusal c.from_residual.result _ refl c.from_residual.ensures.1 _

pub returns-then-ends_refused : goal.returns-then-ends_refused
unfolding change_own_refusal
returns-then-ends_refused c = past_axes (goal.at.returns-then-ends_refused c).In_ok-check_axes _ (stop _ (first _ (first _ c.ends_refused.ensures c.if-ends_refused.true) refl) refl)

pub returns-then-four_or_slot_refused : goal.returns-then-four_or_slot_refused
unfolding change_own_refusal
returns-then-four_or_slot_refused c =
    past_axes (goal.at.returns-then-four_or_slot_refused c).In_ok-check_axes _
    (stop _
    (first _
    (second c.ends_refused.ensures c.if-ends_refused.false
    c.four_or_slot_refused.ensures)
    c.if-four_or_slot_refused.true)
    refl)

pub axes_without_ends-all-requires : goal.axes_without_ends-all-requires
axes_without_ends-all-requires c = points_four _ _ c.in_ok-check_axes.ensures.refusal refl

pub change_refused-requires : goal.change_refused-requires
change_refused-requires c = rw c.axes_without_ends-all.ensures (range (goal.at.change_refused-requires c).In_ok-check_axes)

pub returns-then-change_refused : goal.returns-then-change_refused
unfolding change_own_refusal
returns-then-change_refused c =
    past_axes (goal.at.returns-then-change_refused c).In_ok-check_axes _
    (stop _ (second
    (second c.ends_refused.ensures c.if-ends_refused.false
    c.four_or_slot_refused.ensures)
    c.if-four_or_slot_refused.false
    (rw c.axes_without_ends-all.ensures at c.change_refused.ensures))
    c.if-change_refused.true)

pub some_kinds_refused-requires : goal.some_kinds_refused-requires
some_kinds_refused-requires c = (
  (range (goal.at.some_kinds_refused-requires c).In_ok-check_axes).few_axes,
  (eight_lengths c.args.kinds.now c.args.values.now
      (sym c.ends_refused.ensures ∙ c.if-ends_refused.false)).0,
)

pub returns-then-some_kinds_refused : goal.returns-then-some_kinds_refused
unfolding change_own_refusal
returns-then-some_kinds_refused c = past_lengths (goal.at.returns-then-some_kinds_refused c).Else-change_refused _ (stop _ c.some_kinds_refused.ensures c.if-some_kinds_refused.true)

pub returns : goal.returns
unfolding change_own_refusal
returns c = past_lengths (goal.at.returns c).Else-change_refused _ (pass _ c.some_kinds_refused.ensures c.if-some_kinds_refused.false refl)
