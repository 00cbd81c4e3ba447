-- Edition and number of axes are judged in reading order: 11, 12, 11 again, then 1 for none or more than four; of one to four axes the
-- answer is that of the look at them.
use mathlib.Core.Bool.{true, false, cond}
use mathlib.Core.Path.{◌≡◌, refl, sym, ap, ◌∙◌}
use Prim.Native.Nat.{◌+◌, ◌*◌, ◌≤◌}
use native.Mathlib.Omega.{arith}
use borrow.Author.Tests.{ltb-true, ltb-false}
use lib.ListN.{length}
use Rattle.rules.specs.Refusals.{axes_refused}
use Rattle.rules.specs.Calls.{or_else}
use Rattle.grid_codes.specs.Editions.{unknown_edition}
use Rattle.sheet_read.specs.Fields.{edition, axes, sheet_grid}
use Rattle.sheet_read.specs.Faults.{axes_fault, samples_fault, sheet_refusal}
use Rattle.sheet_read.proofs.Sheets.{no_edition, other_edition, no_axes, some_axes, axes_few, axes_many, axes_allowed}
use Rattle.sheet_read.proofs.look.look.Goals as goal
use Rattle.sheet_read.proofs.look.look.Goals.{After-field_at-n, After-is_unknown_edition, Else-is_short, Else-is_short-2, Else-is_unknown_edition}

-- what each test that was passed has shown
edition_room : (c : Else-is_short) → 0 + 4 ≤ 8 * length c.args.bytes.now
edition_room c = ltb-false _ _ (sym c.is_short.ensures ∙ c.if-is_short.false)

edition_is : (c : After-is_unknown_edition)
    → c.is_unknown_edition.result ≡ unknown_edition (edition c.args.bytes.now)
edition_is c = c.is_unknown_edition.ensures ∙ ap unknown_edition c.field_at-edition.ensures

edition_known : (c : Else-is_unknown_edition) → unknown_edition (edition c.args.bytes.now) ≡ false
edition_known c = sym ((c.is_unknown_edition.ensures ∙ ap unknown_edition c.field_at-edition.ensures)) ∙ c.if-is_unknown_edition.false

axes_room : (c : Else-is_short-2) → 4 + 3 ≤ 8 * length c.args.bytes.now
axes_room c = ltb-false _ _ (sym c.is_short-2.ensures ∙ c.if-is_short-2.false)

-- the number of axes was read
number : (c : After-field_at-n) → let bytes =
    c.args.bytes.now in
    sheet_refusal bytes ≡ cond (axes_refused (sheet_grid bytes)) 1 (or_else (axes_fault bytes (axes bytes)) (samples_fault bytes))
number c =
    some_axes _ ((ltb-false _ _ (sym c.is_short.ensures ∙ c.if-is_short.false))) ((sym ((c.is_unknown_edition.ensures ∙ ap unknown_edition c.field_at-edition.ensures)) ∙ c.if-is_unknown_edition.false)) ((ltb-false _ _ (sym c.is_short-2.ensures ∙ c.if-is_short-2.false)))

pub returns-then-is_short : goal.returns-then-is_short
returns-then-is_short c = rw (no_edition _ (ltb-true _ _ (sym c.is_short.ensures ∙ c.if-is_short.true))) refl

pub field_at-edition-requires : goal.field_at-edition-requires
field_at-edition-requires c = (record { room = edition_room (goal.at.field_at-edition-requires c).Else-is_short; small = omega arith }, omega arith)

pub returns-then-is_unknown_edition : goal.returns-then-is_unknown_edition
returns-then-is_unknown_edition c = rw (other_edition _ (edition_room (goal.at.returns-then-is_unknown_edition c).Else-is_short) (sym (edition_is (goal.at.returns-then-is_unknown_edition c).After-is_unknown_edition) ∙ c.if-is_unknown_edition.true)) refl

pub returns-then-is_short-2 : goal.returns-then-is_short-2
returns-then-is_short-2 c =
    rw (no_axes _ (edition_room (goal.at.returns-then-is_short-2 c).Else-is_short) (edition_known (goal.at.returns-then-is_short-2 c).Else-is_unknown_edition)
    (ltb-true _ _ (sym c.is_short-2.ensures ∙ c.if-is_short-2.true)))
    refl

pub field_at-n-requires : goal.field_at-n-requires
field_at-n-requires c = (record { room = axes_room (goal.at.field_at-n-requires c).Else-is_short-2; small = omega arith }, omega arith)

pub look_at_axes-requires : goal.look_at_axes-requires
look_at_axes-requires c = (
  c.field_at-edition.ensures,
  record { least = omega arith; few = omega arith; said = c.field_at-n.ensures },
)

pub returns-in-1-to-4 : goal.returns-in-1-to-4
returns-in-1-to-4 c =
    let least : 1 ≤ axes c.args.bytes.now = omega (arith, c.field_at-n.ensures) in
    let most : axes c.args.bytes.now ≤ 4 = omega (arith, c.field_at-n.ensures) in
    rw (
      number (goal.at.returns-in-1-to-4 c).After-field_at-n,
      axes_allowed _ least most,
      ← c.field_at-n.ensures,
      ← c.field_at-edition.ensures,
    )
    c.look_at_axes.ensures

pub returns-in_default : goal.returns-in_default
returns-in_default c =
    let none : axes_refused (sheet_grid c.args.bytes.now) ≡ true = axes_few c.args.bytes.now (omega (arith, c.field_at-n.ensures)) in
    rw (number (goal.at.returns-in_default c).After-field_at-n, none) refl

pub returns-in_default-2 : goal.returns-in_default-2
returns-in_default-2 c =
    let none : axes_refused (sheet_grid c.args.bytes.now) ≡ true = axes_many c.args.bytes.now (omega (arith, c.field_at-n.ensures)) in
    rw (number (goal.at.returns-in_default-2 c).After-field_at-n, none) refl
