-- Four tests in the order of the axis's fields, a law of `HeadFields` for each: the answer is the first fault of the rules, 2, 13, 22 or
-- 11, or 0.
use mathlib.Core.Path.{◌≡◌, sym, ap, ◌∙◌}
use mathlib.Core.Bool.{Bool, true, false, cond}
use Prim.Native.Nat.{ℕ, ◌+◌, ◌≤◌}
use native.Mathlib.Omega.{arith}
use Rattle.base_bits.specs.Bits.{numbers_short}
use Rattle.grid_codes.specs.Kinds.{periodic_at_one_end}
use Rattle.grid_codes.specs.Modes.{unknown_mode}
use Rattle.sheet_read.specs.Faults.{axis_fault}
use Rattle.sheet_read.proofs.Extents.{Extent, extent}
use Rattle.sheet_read.proofs.HeadFields.{head_few, head_periodic, head_other_mode, head_patterns, values_most}
use Rattle.sheet_read.proofs.axes.check_head.Goals as goal
use Rattle.sheet_read.proofs.axes.check_head.Goals.{After-are_short, Else-head-lt2, Else-is_periodic_at_one_end, Else-is_unknown_mode}

enough : (c : Else-head-lt2) → 2 ≤ c.args.head.points
enough c = omega (arith, c.if-head-lt2.false)

none : (c : Else-is_periodic_at_one_end) → let head = c.args.head in periodic_at_one_end head.lower head.upper ≡ false
none c = sym c.is_periodic_at_one_end.ensures ∙ c.if-is_periodic_at_one_end.false

known : (c : Else-is_unknown_mode) → unknown_mode c.args.head.mode ≡ false
known c = sym c.is_unknown_mode.ensures ∙ c.if-is_unknown_mode.false

-- all that follows the mode
rest : (c : After-are_short) (test : Bool) → c.are_short.result ≡ test
    → cond test 11 0 ≡ axis_fault c.args.bytes.now c.args.at
rest c test e =
    let head = c.args.head in
    let is =
    c.are_short.ensures
    ∙ ap (λ (v : ℕ). numbers_short c.args.bytes.now (c.args.at + 12 + c.args.width) (v + head.points))
    c.values.ensures in
    head_patterns _ _ _ c.requires.2 _ c.requires.0 c.requires.1.room ((omega (arith, c.if-head-lt2.false)))
    ((sym c.is_periodic_at_one_end.ensures ∙ c.if-is_periodic_at_one_end.false)) ((sym c.is_unknown_mode.ensures ∙ c.if-is_unknown_mode.false)) test (sym is ∙ e)

pub returns-then-head-lt2 : goal.returns-then-head-lt2
returns-then-head-lt2 c = head_few _ _ _ c.requires.2 _ c.requires.0 c.requires.1.room c.if-head-lt2.true

pub returns-then-is_periodic_at_one_end : goal.returns-then-is_periodic_at_one_end
returns-then-is_periodic_at_one_end c =
    head_periodic _ _ _ c.requires.2 _ c.requires.0 c.requires.1.room (enough (goal.at.returns-then-is_periodic_at_one_end c).Else-head-lt2)
    (sym c.is_periodic_at_one_end.ensures ∙ c.if-is_periodic_at_one_end.true)

pub returns-then-is_unknown_mode : goal.returns-then-is_unknown_mode
returns-then-is_unknown_mode c =
    head_other_mode _ _ _ c.requires.2 _ c.requires.0 c.requires.1.room (enough (goal.at.returns-then-is_unknown_mode c).Else-head-lt2) (none (goal.at.returns-then-is_unknown_mode c).Else-is_periodic_at_one_end)
    (sym c.is_unknown_mode.ensures ∙ c.if-is_unknown_mode.true)

pub overflow_add-values : goal.overflow_add-values
overflow_add-values c =
    let head = c.args.head in
    let reach : Extent c.args.bytes.now c.args.at = extent _ _ in
    omega (arith, values_most head, c.requires.2.points, c.values.ensures)

pub are_short-requires : goal.are_short-requires
are_short-requires c =
    let head = c.args.head in
    let reach : Extent c.args.bytes.now c.args.at = extent _ _ in
    let is = c.values.ensures in
    let told = c.requires.0 in
    let few = enough (goal.at.are_short-requires c).Else-head-lt2 in (
      omega (arith, few),
      omega (arith, values_most head, c.requires.2.points, is, told),
    )

pub returns-then-are_short : goal.returns-then-are_short
returns-then-are_short c = rest (goal.at.returns-then-are_short c).After-are_short true c.if-are_short.true

pub returns : goal.returns
returns c = rest (goal.at.returns c).After-are_short false c.if-are_short.false
