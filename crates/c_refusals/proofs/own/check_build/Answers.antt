-- A build's own refusals, row by row in their order: those of the axes, 4 for the ends and then for knots, samples and tensor, 13.
-- Each row passed gives what the next test asks: four points, then axes in range, then eight kinds.
use mathlib.Core.Path.{refl, sym, ◌∙◌}
use Rattle.grid.specs.GridOfCall.{points_of, InRange}
use Rattle.grid_checks.proofs.Rows.{first, second, stop, pass, Past}
use Rattle.c_axes.specs.Axes.{axes_without_ends}
use Rattle.c_refusals.specs.OwnRefusals.{build_own_rows, build_own_refusal}
use Rattle.c_refusals.proofs.Rows.{axes_given, axes_pass, points_four, points_in_range}
use Rattle.c_refusals.proofs.Lengths.{eight_lengths}
use Rattle.c_refusals.proofs.own.check_build.Goals as goal
use Rattle.c_refusals.proofs.own.check_build.Goals.{Else-build_refused, In_ok-check_axes}

past_axes : (c : In_ok-check_axes) → Past ((build_own_rows c.args.axes c.args.points.now c.args.kinds.now c.args.values.now c.args.knots.now
    c.args.samples.now c.args.tensor.now)) 4
past_axes c answer e = axes_pass _ _ c.in_ok-check_axes.ensures.refusal _ refl e

range : (c : In_ok-check_axes) → InRange c.args.axes (points_of (axes_without_ends c.args.axes c.args.points.now))
range c = points_in_range _ _ c.in_ok-check_axes.ensures.refusal refl

past_lengths : (c : Else-build_refused) → Past ((build_own_rows c.args.axes c.args.points.now c.args.kinds.now c.args.values.now c.args.knots.now
    c.args.samples.now c.args.tensor.now)) 5
past_lengths c answer e =
    (axes_pass _ _ c.in_ok-check_axes.ensures.refusal _ refl (pass _
    (second c.ends_refused.ensures c.if-ends_refused.false
    (rw c.axes_without_ends-all.ensures at c.build_refused.ensures))
    c.if-build_refused.false e))

pub returns-in_err-check_axes : goal.returns-in_err-check_axes
unfolding build_own_refusal
returns-in_err-check_axes c =
    axes_given _ _ c.in_err-check_axes.ensures.refusal c.from_residual.result _ refl c.from_residual.ensures.1 _

pub returns-then-ends_refused : goal.returns-then-ends_refused
unfolding build_own_refusal
returns-then-ends_refused c = past_axes (goal.at.returns-then-ends_refused c).In_ok-check_axes _ (stop _ (first _ c.ends_refused.ensures c.if-ends_refused.true) refl)

pub axes_without_ends-all-requires : goal.axes_without_ends-all-requires
axes_without_ends-all-requires c = points_four _ _ c.in_ok-check_axes.ensures.refusal refl

pub build_refused-requires : goal.build_refused-requires
build_refused-requires c = rw c.axes_without_ends-all.ensures (range (goal.at.build_refused-requires c).In_ok-check_axes)

pub returns-then-build_refused : goal.returns-then-build_refused
unfolding build_own_refusal
returns-then-build_refused c =
    past_axes (goal.at.returns-then-build_refused c).In_ok-check_axes _
    (stop _
    (second c.ends_refused.ensures c.if-ends_refused.false
    (rw c.axes_without_ends-all.ensures at c.build_refused.ensures))
    c.if-build_refused.true)

pub some_kinds_refused-requires : goal.some_kinds_refused-requires
some_kinds_refused-requires c = (
  (range (goal.at.some_kinds_refused-requires c).In_ok-check_axes).few_axes,
  (eight_lengths c.args.kinds.now c.args.values.now
      (sym c.ends_refused.ensures ∙ c.if-ends_refused.false)).0,
)

pub returns-then-some_kinds_refused : goal.returns-then-some_kinds_refused
unfolding build_own_refusal
returns-then-some_kinds_refused c = past_lengths (goal.at.returns-then-some_kinds_refused c).Else-build_refused _ (stop _ c.some_kinds_refused.ensures c.if-some_kinds_refused.true)

pub returns : goal.returns
unfolding build_own_refusal
returns c = past_lengths (goal.at.returns c).Else-build_refused _ (pass _ c.some_kinds_refused.ensures c.if-some_kinds_refused.false refl)
