use native.Mathlib.Omega.{arith}
use Rattle.step_surface.proofs.Stepping.{turn_first, end_within, part_given, number_within, turn_next, turn_last}
use Rattle.step_surface.proofs.steps_on_axes.Goals as goal

pub loop-i-init : goal.loop-i-init
loop-i-init c = turn_first _ _ _ _ _ c.requires.1

pub overflow_add-end : goal.overflow_add-end
overflow_add-end c = omega (arith, end_within _ _ _ _ _ _ _ _ _ c.loop-i.invariant c.loop-i-test.true)

pub offset_bounds-knots-begin : goal.offset_bounds-knots-begin
offset_bounds-knots-begin c = omega (arith, end_within _ _ _ _ _ _ _ _ _ c.loop-i.invariant c.loop-i-test.true)

pub slice_bounds-step_index-end : goal.slice_bounds-step_index-end
slice_bounds-step_index-end c = omega (arith, end_within _ _ _ _ _ _ _ _ _ c.loop-i.invariant c.loop-i-test.true)

pub step_index-index-requires : goal.step_index-index-requires
step_index-index-requires c = part_given _ _ _ _ _ _ _ _ _ c.loop-i.invariant c.loop-i-test.true

pub overflow_mul-number : goal.overflow_mul-number
overflow_mul-number c =
    omega (
      arith,
      number_within _ _ _ _ _ _ _ _ _ c.loop-i.invariant c.loop-i-test.true _
          c.step_index-index.ensures,
    )

pub overflow_add-number : goal.overflow_add-number
overflow_add-number c =
    omega (
      arith,
      number_within _ _ _ _ _ _ _ _ _ c.loop-i.invariant c.loop-i-test.true _
          c.step_index-index.ensures,
    )

pub loop-i-preserved : goal.loop-i-preserved
loop-i-preserved c = turn_next _ _ _ _ _ _ _ _ _ c.loop-i.invariant c.loop-i-test.true _ c.step_index-index.ensures

pub returns : goal.returns
returns c = turn_last _ _ _ _ _ _ _ _ _ c.loop-i.invariant (omega (arith, c.loop-i.auto.i-end, c.loop-i-test.false))
