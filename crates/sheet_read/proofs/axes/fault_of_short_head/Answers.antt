-- The fields of a head that is not there whole, one after the other: what is judged before the missing bit is met decides, and else it
-- is 11.
use mathlib.Core.Path.{◌≡◌, sym, ◌∙◌}
use Prim.Native.Nat.{◌+◌, ◌*◌, ◌≤◌}
use native.Mathlib.Omega.{arith}
use borrow.Author.Tests.{ltb-true, ltb-false}
use lib.ListN.{length}
use Rattle.grid_codes.specs.Kinds.{periodic_at_one_end}
use Rattle.sheet_read.specs.Fields.{points_at, lower_kind, upper_kind}
use Rattle.sheet_read.proofs.AxisFaults.{no_points, few_points, no_kinds, one_periodic, no_mode}
use Rattle.sheet_read.proofs.axes.fault_of_short_head.Goals as goal
use Rattle.sheet_read.proofs.axes.fault_of_short_head.Goals.{After-is_periodic_at_one_end, Else-field_at-lt1, Else-is_short, Else-is_short-2}

points_room : (c : Else-is_short) → (c.args.at) + 8 ≤ 8 * length ((c.args.bytes.now))
points_room c = ltb-false _ _ (sym c.is_short.ensures ∙ c.if-is_short.false)

enough : (c : Else-field_at-lt1) → 2 ≤ points_at ((c.args.bytes.now)) ((c.args.at))
unfolding points_at
enough c = let is = c.field_at.ensures in omega (arith, c.if-field_at-lt1.false)

kinds_room : (c : Else-is_short-2) → (c.args.at) + 10 + 2 ≤ 8 * length ((c.args.bytes.now))
kinds_room c =
    let room : (c.args.at) + 8 + 4 ≤ 8 * length ((c.args.bytes.now)) = ltb-false _ _ (sym c.is_short-2.ensures ∙ c.if-is_short-2.false) in
    omega (arith, room)

kinds : (c : After-is_periodic_at_one_end)
    → c.is_periodic_at_one_end.result ≡ periodic_at_one_end (lower_kind ((c.args.bytes.now)) ((c.args.at))) (upper_kind ((c.args.bytes.now)) ((c.args.at)))
kinds c = cc

pub returns-then-is_short : goal.returns-then-is_short
returns-then-is_short c = no_points _ _ (ltb-true _ _ (sym c.is_short.ensures ∙ c.if-is_short.true))

pub field_at-requires : goal.field_at-requires
field_at-requires c = (record { room = points_room (goal.at.field_at-requires c).Else-is_short; small = omega arith }, omega arith)

pub returns-then-field_at-lt1 : goal.returns-then-field_at-lt1
unfolding points_at
returns-then-field_at-lt1 c =
    let is = c.field_at.ensures in
    few_points _ _ (points_room (goal.at.returns-then-field_at-lt1 c).Else-is_short) (omega (arith, c.if-field_at-lt1.true))

pub returns-then-is_short-2 : goal.returns-then-is_short-2
returns-then-is_short-2 c =
    no_kinds _ _ (enough (goal.at.returns-then-is_short-2 c).Else-field_at-lt1) (points_room (goal.at.returns-then-is_short-2 c).Else-is_short)
    (ltb-true _ _ (sym c.is_short-2.ensures ∙ c.if-is_short-2.true))

pub field_at-requires-2 : goal.field_at-requires-2
field_at-requires-2 c = let room = kinds_room (goal.at.field_at-requires-2 c).Else-is_short-2 in (record { room = omega arith; small = omega arith }, omega arith)

pub field_at-requires-3 : goal.field_at-requires-3
field_at-requires-3 c = (record { room = kinds_room (goal.at.field_at-requires-3 c).Else-is_short-2; small = omega arith }, omega arith)

pub returns-then-is_periodic_at_one_end : goal.returns-then-is_periodic_at_one_end
returns-then-is_periodic_at_one_end c = one_periodic _ _ (enough (goal.at.returns-then-is_periodic_at_one_end c).Else-field_at-lt1) (kinds_room (goal.at.returns-then-is_periodic_at_one_end c).Else-is_short-2) (sym (kinds (goal.at.returns-then-is_periodic_at_one_end c).After-is_periodic_at_one_end) ∙ c.if-is_periodic_at_one_end.true)

pub returns : goal.returns
returns c =
    let told = c.requires.0 in
    let gone = c.requires.2 in
    no_mode _ _ (enough (goal.at.returns c).Else-field_at-lt1) (kinds_room (goal.at.returns c).Else-is_short-2) (sym (kinds (goal.at.returns c).After-is_periodic_at_one_end) ∙ c.if-is_periodic_at_one_end.false) (omega (arith, gone, told))
