-- The reader's promise: a fault leaves both buffers as they were, and a sheet without one has its parts stored.
-- ---- a sheet that is not refused
use mathlib.Core.Path.{refl, sym, ◌∙◌}
use native.Mathlib.Omega.{arith}
use Rattle.rules.proofs.Given.{number_some}
use Rattle.grid_codes.proofs.Classed.{read_none}
use Rattle.sheet_read.proofs.Numbers.{sheet_of_reading}
use Rattle.sheet_read.proofs.Promises.{knots_refused, samples_refused, sheet_refused, given_refusal, not_refused, given_edition, given_axes, given_all, sheet_read}
use Rattle.sheet_read.proofs.Parts.{parts_room}
use Rattle.sheet_read.proofs.read.Goals as goal

pub returns-then-knots-ne1024 : goal.returns-then-knots-ne1024
returns-then-knots-ne1024 c = knots_refused _ _ _ _ c.if-knots-ne1024.true refl

pub returns-then-samples-ne1024 : goal.returns-then-samples-ne1024
returns-then-samples-ne1024 c = samples_refused _ _ _ _ (omega arith) c.if-samples-ne1024.true refl

pub returns-in-Err : goal.returns-in-Err
returns-in-Err c = sheet_refused _ _ _ _ (omega arith) (omega arith) (rw c.in-Err.is at c.look.ensures) (number_some _)

pub unreachable-requires : goal.unreachable-requires
unreachable-requires c =
    number_some _
    (sym c.number.ensures
    ∙ read_none _ (c.number.ensures ∙ given_refusal _ _ (rw c.in-Err.is at c.look.ensures)) (sheet_of_reading _)
    (sym c.if-is_unread.ensures))

pub store_parts-requires : goal.store_parts-requires
store_parts-requires c =
    let told = rw c.in-Ok.is at c.look.ensures in
    parts_room _ _ _ _ _ _ (not_refused _ _ told refl) (given_edition _ _ told refl) (given_axes _ _ told refl) (given_all _ _ told refl)
    (omega arith) (omega arith)

pub returns : goal.returns
returns c =
    sheet_read _ _ _ _ (omega arith) (omega arith) (rw c.in-Ok.is at c.look.ensures) refl _ _
    c.store_parts.ensures.0 c.store_parts.ensures.1
