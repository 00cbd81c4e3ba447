-- Four ways out: a refusal of the parts, one of the edition, 15 for a buffer shorter than the sheet, each with the buffer as it was,
-- and the sheet in its first bytes. `few` bounds its bits by 82,467, so its length is counted without overflow.
use mathlib.Core.Path.{◌≡◌, refl, sym, ◌∙◌}
use native.Mathlib.Omega.{arith}
use Rattle.rules.proofs.Given.{err_given, number_some}
use Rattle.grid.specs.GridOfCall.{grid}
use Rattle.sheet_write.specs.Write.{edition_refusal}
use Rattle.sheet_write.proofs.Promises.{edition_of_axes, parts_refused, given, edition_refused, few, buffer_refused, room, written}
use borrow.Author.Rules.{rules}
use Rattle.sheet_write.proofs.write.Goals as goal
use Rattle.sheet_write.proofs.write.Goals.{In_ok-check_edition}

-- the edition is not refused
told : (c : In_ok-check_edition) → let args = c.args in
    edition_refusal args.edition (grid args.axes args.all args.knots.now) ≡ 0
told c =
    let args = c.args in
    sym (c.in_ok-check_edition.ensures ∙ edition_of_axes args.edition args.axes args.all args.knots.now)

pub returns-in_err-check_parts : goal.returns-in_err-check_parts
returns-in_err-check_parts c =
    rw (err_given c.from_residual.result _ c.from_residual.ensures.1)
    (parts_refused _ _ _ _ _ c.in_err-check_parts.ensures (number_some _))

pub check_edition-requires : goal.check_edition-requires
check_edition-requires c =
    let args = c.args in
    let g = grid args.axes args.all args.knots.now in
    (given args.edition g args.samples.now args.buffer.now _ c.in_ok-check_parts.ensures
    refl).grid_given.in_range.few_axes

pub returns-in_err-check_edition : goal.returns-in_err-check_edition
returns-in_err-check_edition c =
    let args = c.args in
    let g = grid args.axes args.all args.knots.now in
    let from = c.from_residual-in_err-check_edition in
    rw (err_given from.result _ from.ensures.1)
    (edition_refused args.edition g args.samples.now args.buffer.now _ c.in_ok-check_parts.ensures refl _
    (c.in_err-check_edition.ensures ∙ edition_of_axes args.edition args.axes args.all args.knots.now)
    (number_some _))

pub part_bits-bits-requires : goal.part_bits-bits-requires
part_bits-bits-requires c =
    let args = c.args in
    let g = grid args.axes args.all args.knots.now in
    (given args.edition g args.samples.now args.buffer.now _ c.in_ok-check_parts.ensures
    refl).grid_given.in_range

pub overflow_add-length : goal.overflow_add-length
overflow_add-length c =
    let args = c.args in
    let g = grid args.axes args.all args.knots.now in
    let most =
    few args.edition g args.samples.now args.buffer.now _ c.in_ok-check_parts.ensures refl
    (told (goal.at.overflow_add-length c).In_ok-check_edition) c.part_bits-bits.result c.part_bits-bits.ensures in
    omega arith

pub returns-then-buffer-length : goal.returns-then-buffer-length
returns-then-buffer-length c =
    let args = c.args in
    let g = grid args.axes args.all args.knots.now in
    buffer_refused args.edition g args.samples.now args.buffer.now _ c.in_ok-check_parts.ensures
    refl (told (goal.at.returns-then-buffer-length c).In_ok-check_edition) c.part_bits-bits.result c.part_bits-bits.ensures
    c.if-buffer-length.true

pub put_sheet-requires : goal.put_sheet-requires
put_sheet-requires c =
    let args = c.args in
    let g = grid args.axes args.all args.knots.now in
    room args.edition g args.samples.now args.buffer.now _ c.in_ok-check_parts.ensures refl
    (told (goal.at.put_sheet-requires c).In_ok-check_edition) c.part_bits-bits.result c.part_bits-bits.ensures c.if-buffer-length.false

pub returns : goal.returns
returns c =
    let args = c.args in
    let g = grid args.axes args.all args.knots.now in
    written args.edition g args.samples.now args.buffer.now _ c.in_ok-check_parts.ensures
    refl (told (goal.at.returns c).In_ok-check_edition) c.part_bits-bits.result c.part_bits-bits.ensures c.if-buffer-length.false
    (search rules) _ c.put_sheet.ensures
