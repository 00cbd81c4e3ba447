-- The four tests, p0, p1, d0, d1 in this order, each asked where those before it passed: values in -32,768..32,767 and slopes in
-- -131,072..131,071.
use mathlib.Core.Path.{◌≡◌, refl, ◌∙◌}
use mathlib.Core.Bool.{Bool, true, false, ◌&&◌}
use borrow.Author.Rules.{rules}
use Rattle.device_cell.specs.DeviceCell.{cell_in_range, value_in_range, slope_in_range}
use Rattle.device_cell.proofs.cell_in_range.Goals as goal
use Rattle.device_cell.proofs.cell_in_range.Goals.{Joined-in_range-2, then-in_range, else-in_range, then-in_range-2, else-in_range-2}

all_four : (a b c d : Bool) → ((a && b) && c) && d ≡ (a && (b && (c && d)))
all_four true true c d = refl
all_four true false c d = refl
all_four false b c d = refl

three : (c : Joined-in_range-2) → c.if-in_range-2.value ≡ ((value_in_range c.args.cell.p0 && value_in_range c.args.cell.p1) && slope_in_range c.args.cell.d0)
three c =
    let a = c.args.cell in
    let one : value_in_range a.p0 ≡ c.in_range.result = search rules in
    let two : c.if-in_range.value ≡ (value_in_range a.p0 && value_in_range a.p1) =
    elim c.if-in_range.branch [
      | then-in_range w ↦ rw (one, w.if-in_range.true) (search rules)
      | else-in_range w ↦ rw (one, w.if-in_range.false) (w.value-is ∙ w.if-in_range.false)
    ] in
    elim c.if-in_range-2.branch [
      | then-in_range-2 w ↦ rw (← two, w.if-in_range-2.true) (search rules)
      | else-in_range-2 w ↦ rw (← two, w.if-in_range-2.false) (w.value-is ∙ w.if-in_range-2.false)
    ]

pub returns-then-in_range-3 : goal.returns-then-in_range-3
unfolding cell_in_range
returns-then-in_range-3 c =
    let a = c.args.cell in
    rw (← all_four (value_in_range a.p0) (value_in_range a.p1) (slope_in_range a.d0) (slope_in_range a.d1), ← three (goal.at.returns-then-in_range-3 c).Joined-in_range-2, c.if-in_range-3.true)
    (search rules)

pub returns-else-in_range-3 : goal.returns-else-in_range-3
unfolding cell_in_range
returns-else-in_range-3 c =
    let a = c.args.cell in
    rw (← all_four (value_in_range a.p0) (value_in_range a.p1) (slope_in_range a.d0) (slope_in_range a.d1), ← three (goal.at.returns-else-in_range-3 c).Joined-in_range-2, c.if-in_range-3.false)
    refl
