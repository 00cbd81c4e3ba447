use mathlib.Core.Path.{◌≡◌, sym, ap, ◌∙◌}
use Prim.Native.Nat.{◌+◌}
use native.Mathlib.Omega.{arith}
use borrow.Author.Tests.{ltb-true, ltb-false}
use Rattle.base_bits.specs.BitsThere.{Within}
use Rattle.rules.specs.Answers.{refusal_of}
use Rattle.grid_codes.proofs.Classed.{unread_met, read_none, err_met}
use Rattle.sheet_read.specs.Faults.{axis_fault}
use Rattle.sheet_read.proofs.Extents.{Extent, extent}
use Rattle.sheet_read.proofs.HeadFields.{small, end_is}
use Rattle.sheet_read.proofs.Numbers.{axis_of_reading}
use Rattle.sheet_read.proofs.Walks.{turn_first, turn_fault, turn_whole, turn_next, turn_last}
use Rattle.sheet_read.proofs.axes.walk_axes.Goals as goal
use Rattle.sheet_read.proofs.axes.walk_axes.Goals.{Else-is_short, Else-is_unread, In-loop-i}

known : (turn : In-loop-i) → Extent turn.args.bytes.now turn.loop-i.at
known turn = extent _ _

-- the head at hand is there
there : (c : Else-is_short) → Within c.args.bytes.now c.loop-i.at (12 + c.args.width)
there c =
    let few = c.loop-i.invariant.small in
    let reach : Extent c.args.bytes.now c.loop-i.at = extent _ _ in
    let told = c.requires.0 in
    record { room = ltb-false _ _ (sym c.is_short.ensures ∙ c.if-is_short.false); small = omega arith }

-- the axis at hand has no fault
faultless : (c : Else-is_unread)
    → axis_fault c.args.bytes.now c.loop-i.at ≡ 0
faultless c =
    let is = c.check_head-checked.ensures in
    sym is ∙ sym c.number_told.ensures ∙ read_none _ (c.number_told.ensures ∙ is) (axis_of_reading _ _) (sym c.if-is_unread.ensures)

pub loop-i-init : goal.loop-i-init
loop-i-init c = rw c.unused-all.ensures (turn_first _ _ c.requires.1)

pub overflow_add-width : goal.overflow_add-width
overflow_add-width c = let reach = known (goal.at.overflow_add-width c).In-loop-i in let told = c.requires.0 in omega arith

pub is_short-requires : goal.is_short-requires
is_short-requires c =
    let reach = known (goal.at.is_short-requires c).In-loop-i in
    let told = c.requires.0 in
    let few = c.loop-i.invariant.small in omega arith

pub fault_of_short_head-requires : goal.fault_of_short_head-requires
fault_of_short_head-requires c = (c.requires.0, c.loop-i.invariant.small, ltb-true _ _ (sym c.is_short.ensures ∙ c.if-is_short.true))

pub returns-then-is_short : goal.returns-then-is_short
returns-then-is_short c = turn_fault _ _ _ _ _ c.loop-i.invariant c.loop-i-test.true _ c.fault_of_short_head.ensures

pub head_at-head-requires : goal.head_at-head-requires
head_at-head-requires c = (c.requires.0, there (goal.at.head_at-head-requires c).Else-is_short)

pub check_head-checked-requires : goal.check_head-checked-requires
check_head-checked-requires c = (c.requires.0, there (goal.at.check_head-checked-requires c).Else-is_short, c.head_at-head.ensures, c.loop-i.invariant.small)

pub unwrap_err-requires : goal.unwrap_err-requires
unwrap_err-requires c = err_met _ c.number_told.ensures (unread_met _ (sym c.if-is_unread.ensures))

pub returns-then-is_unread : goal.returns-then-is_unread
returns-then-is_unread c =
    turn_fault _ _ _ _ _ c.loop-i.invariant c.loop-i-test.true _
    (sym (ap refusal_of c.unwrap_err.ensures) ∙ c.check_head-checked.ensures)

pub axis-requires : goal.axis-requires
axis-requires c = (
  c.requires.0,
  turn_whole _ _ _ _ _ c.loop-i.invariant c.loop-i-test.true (faultless (goal.at.axis-requires c).Else-is_unread),
  c.head_at-head.ensures,
)

pub after-at-requires : goal.after-at-requires
after-at-requires c = small _ _ _ c.head_at-head.ensures _ c.requires.0 c.loop-i.invariant.small

pub loop-i-preserved : goal.loop-i-preserved
loop-i-preserved c =
    turn_next _ _ _ _ _ c.loop-i.invariant c.loop-i-test.true _ _ (faultless (goal.at.loop-i-preserved c).Else-is_unread)
    c.axis.ensures
    (c.after-at.ensures ∙ end_is _ _ _ c.head_at-head.ensures _ c.requires.0)

pub returns : goal.returns
returns c = turn_last _ _ _ _ _ c.loop-i.invariant c.loop-i-test.false
