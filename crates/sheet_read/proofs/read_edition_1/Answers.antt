-- Each of the five ways out keeps the promise: 4 by either buffer's length, 11 or 12 at the edition's field, both buffers untouched,
-- and of a sheet of edition 1 what `read` promises, by `as_read`.
use mathlib.Core.Path.{refl, sym, ◌∙◌}
use Prim.Native.Nat.{◌+◌, ◌*◌, ◌≤◌}
use native.Mathlib.Omega.{arith}
use borrow.Author.Tests.{ltb-true, ltb-false}
use lib.ListN.{length}
use Rattle.rules.proofs.Given.{err_given}
use Rattle.sheet_read.proofs.Edition1.{knots_refused, samples_refused, edition_short, edition_refused, as_read}
use Rattle.sheet_read.proofs.read_edition_1.Goals as goal
use Rattle.sheet_read.proofs.read_edition_1.Goals.{Else-is_short}

room : (c : Else-is_short) → 0 + 4 ≤ 8 * length c.args.bytes.now
room c = ltb-false _ _ (sym c.is_short.ensures ∙ c.if-is_short.false)

pub returns-then-knots-ne1024 : goal.returns-then-knots-ne1024
returns-then-knots-ne1024 c = knots_refused _ _ _ _ c.if-knots-ne1024.true refl

pub returns-then-samples-ne1024 : goal.returns-then-samples-ne1024
returns-then-samples-ne1024 c = samples_refused _ _ _ (omega arith) _ c.if-samples-ne1024.true refl

pub returns-then-is_short : goal.returns-then-is_short
returns-then-is_short c =
    edition_short _ _ _ (omega arith) (omega arith) _ (ltb-true _ _ (sym c.is_short.ensures ∙ c.if-is_short.true)) refl

pub field_at-requires : goal.field_at-requires
field_at-requires c = (record { room = room (goal.at.field_at-requires c).Else-is_short; small = omega arith }, omega arith)

pub returns-then-field_at-ne1 : goal.returns-then-field_at-ne1
returns-then-field_at-ne1 c =
    edition_refused _ _ _ (omega arith) (omega arith) (room (goal.at.returns-then-field_at-ne1 c).Else-is_short) _
    (λ e. c.if-field_at-ne1.true (c.field_at.ensures ∙ e)) refl

pub returns-in_err-sheet : goal.returns-in_err-sheet
returns-in_err-sheet c =
    rw (err_given c.from_residual.result _ c.from_residual.ensures.1)
    (as_read _ (sym c.field_at.ensures ∙ c.if-field_at-ne1.false) _ _ _ _ _ _ c.in_err-sheet.ensures refl)

pub returns : goal.returns
returns c = as_read _ (sym c.field_at.ensures ∙ c.if-field_at-ne1.false) _ _ _ _ _ _ c.in_ok-sheet.ensures refl
