use mathlib.Core.Path.{◌∙◌}
use native.Mathlib.Omega.{arith}
use Rattle.rules.proofs.Given.{err_given}
use Rattle.program_report_print.proofs.Turns.{turn_first, turn_ends, turn_stops, turn_fails, turn_next, turn_less, brought_fits}
use Rattle.program_report_print.proofs.report_through.Goals as goal

pub loop-filled-init : goal.loop-filled-init
loop-filled-init c = turn_first _ _ _ c.requires c.none-sum.ensures

pub slice_bounds-feed-end : goal.slice_bounds-feed-end
slice_bounds-feed-end c = let short = c.if-filled-buffer.true in omega arith

pub feed-requires : goal.feed-requires
feed-requires c = (c.loop-filled.invariant.running, omega arith)

pub shape_of-buffer-then-filled-buffer : goal.shape_of-buffer-then-filled-buffer
shape_of-buffer-then-filled-buffer c = c.loop-filled.invariant.same

pub returns-then-filled-buffer : goal.returns-then-filled-buffer
returns-then-filled-buffer c = rw c.told.ensures (turn_ends _ _ _ _ _ _ c.loop-filled.invariant _ c.if-filled-buffer.true c.feed.ensures)

pub feed-next-requires : goal.feed-next-requires
feed-next-requires c = (c.loop-filled.invariant.running, omega arith)

pub shape_of-buffer-then-stopped : goal.shape_of-buffer-then-stopped
shape_of-buffer-then-stopped c = c.loop-filled.invariant.same

pub returns-then-stopped : goal.returns-then-stopped
returns-then-stopped c =
    rw c.told-then-stopped.ensures
    (turn_stops _ _ _ _ _ _ c.loop-filled.invariant c.if-filled-buffer.false _ c.feed-next.ensures c.if-stopped.true)

pub keep-requires : goal.keep-requires
keep-requires c = c.feed-next.ensures.takes.inside

pub overflow_sub-kept : goal.overflow_sub-kept
overflow_sub-kept c =
    let inside = c.feed-next.ensures.takes.inside in
    let moved = c.keep.auto.buffer in omega arith

pub refill-requires : goal.refill-requires
refill-requires c = omega arith

pub shape_of-buffer-in_err-came : goal.shape_of-buffer-in_err-came
shape_of-buffer-in_err-came c = c.refill.auto.buffer ∙ c.keep.auto.buffer ∙ c.loop-filled.invariant.same

pub returns-in_err-came : goal.returns-in_err-came
returns-in_err-came c =
    rw (err_given c.from_residual.result _ c.from_residual.ensures.1)
    (turn_fails _ _ _ _ _ _ c.loop-filled.invariant c.if-filled-buffer.false _ c.feed-next.ensures _ _)

pub overflow_add-filled : goal.overflow_add-filled
overflow_add-filled c =
    let inv = c.loop-filled.invariant in
    omega (arith, c.in_ok-came.ensures.most, c.refill.auto.buffer, c.keep.auto.buffer, inv.same, inv.lent.long)

pub overflow_add-brought : goal.overflow_add-brought
overflow_add-brought c =
    let fits =
    brought_fits _ _ _ _ _ _ c.loop-filled.invariant c.if-filled-buffer.false _ c.feed-next.ensures c.if-stopped.false _ _ _
    c.keep.auto.buffer
    c.keep.ensures
    c.refill.auto.buffer
    c.in_ok-came.ensures in omega arith

pub loop-filled-smaller : goal.loop-filled-smaller
loop-filled-smaller c = turn_less _ _ _ _ _ _ c.loop-filled.invariant c.if-filled-buffer.false _ c.feed-next.ensures c.if-stopped.false

pub loop-filled-preserved : goal.loop-filled-preserved
loop-filled-preserved c =
    turn_next _ _ _ _ _ _ c.loop-filled.invariant c.if-filled-buffer.false _ c.feed-next.ensures c.if-stopped.false _ _ _
    c.keep.auto.buffer
    c.keep.ensures
    c.refill.auto.buffer
    c.in_ok-came.ensures
