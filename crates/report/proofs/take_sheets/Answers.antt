use mathlib.Core.Path.{refl}
use native.Mathlib.Omega.{arith}
use lib.ListN.{drop, length-drop}
use Rattle.report.specs.Feeding.{Progressed}
use Rattle.report.proofs.Progressing.{alike_buffers, turn_first, turn_part, turn_next, turn_stops, turn_last}
use Rattle.report.proofs.take_sheets.Goals as goal
use Rattle.report.proofs.take_sheets.Goals.{After-take_sheet-next}

progressed : (b : After-take_sheet-next)
    → Progressed b.loop-at.sum (drop b.loop-at.at b.args.bytes.now)
    b.take_sheet-next.result
progressed b =
    rw (turn_part _ _ _ _ _ b.loop-at.invariant.0 b.loop-at-test.true) at b.take_sheet-next.ensures

pub loop-at-init : goal.loop-at-init
loop-at-init c = (
  turn_first _ _ _ c.requires.0,
  record { knots_alike = refl; samples_alike = refl; scratch_alike = refl },
)

pub take_sheet-next-requires : goal.take_sheet-next-requires
take_sheet-next-requires c =
    let turn = c.loop-at.invariant.0 in
    let part = turn_part _ _ _ _ _ turn c.loop-at-test.true in (
      turn.running,
      rw part (simp length-drop (omega arith)),
      alike_buffers _ _ _ _ _ _ c.requires.2 c.loop-at.invariant.1,
    )

pub returns-then-stopped : goal.returns-then-stopped
returns-then-stopped c = turn_stops _ _ _ _ _ c.loop-at.invariant.0 c.loop-at-test.true _ (progressed (goal.at.returns-then-stopped c).After-take_sheet-next) c.if-stopped.true

pub overflow_add-at : goal.overflow_add-at
overflow_add-at c =
    let next = turn_next _ _ _ _ _ c.loop-at.invariant.0 c.loop-at-test.true _ (progressed (goal.at.overflow_add-at c).After-take_sheet-next) c.if-stopped.false in
    let most = next.most in
    let good = c.well_formed in
    let fits = c.ranges in omega arith

pub loop-at-smaller : goal.loop-at-smaller
loop-at-smaller c =
    let at_after_take_sheet_next = (goal.at.loop-at-smaller c).After-take_sheet-next in
    let some = (progressed at_after_take_sheet_next).some c.if-stopped.false in
    let next = turn_next _ _ _ _ _ c.loop-at.invariant.0 c.loop-at-test.true _ (progressed at_after_take_sheet_next) c.if-stopped.false in
    let most = next.most in omega arith

pub loop-at-preserved : goal.loop-at-preserved
loop-at-preserved c =
    let alike = c.loop-at.invariant.1 in
    let kept = c.take_sheet-next.auto in (
      turn_next _ _ _ _ _ c.loop-at.invariant.0 c.loop-at-test.true _ (progressed (goal.at.loop-at-preserved c).After-take_sheet-next) c.if-stopped.false,
      record { knots_alike = omega arith; samples_alike = omega arith; scratch_alike = omega arith },
    )

pub returns : goal.returns
returns c = turn_last _ _ _ _ _ c.loop-at.invariant.0 c.loop-at-test.false
