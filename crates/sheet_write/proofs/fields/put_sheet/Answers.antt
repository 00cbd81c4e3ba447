-- Edition, number of axes, axes, samples and the filler follow each other without a gap, which makes the sheet's fields (`sheet_put`);
-- `ends` says where each part ends, and so that there is room for it.
use mathlib.Core.Path.{refl}
use native.Mathlib.Omega.{arith}
use Rattle.grid.specs.GridOfCall.{grid}
use Rattle.sheet_write.proofs.Puts.{ends, axes_given, axes_end_is, axes_put_is, last_within, sheet_put}
use Rattle.sheet_write.proofs.fields.put_sheet.Goals as goal

pub put_field-requires : goal.put_field-requires
put_field-requires c =
    let g = grid c.args.axes c.args.all c.args.knots.now in
    let sizes = ends c.args.bytes.now c.args.edition g c.args.samples.now in
    let within = c.requires.within in
    (record { room = omega arith; small = omega arith }, omega arith)

pub put_field-requires-2 : goal.put_field-requires-2
put_field-requires-2 c =
    let g = grid c.args.axes c.args.all c.args.knots.now in
    let sizes = ends c.args.bytes.now c.args.edition g c.args.samples.now in
    let within = c.requires.within in
    (record { room = omega arith; small = omega arith }, omega arith)

pub put_axes-at-requires : goal.put_axes-at-requires
put_axes-at-requires c =
    let g = grid c.args.axes c.args.all c.args.knots.now in
    axes_given c.args.bytes.now c.args.edition g c.args.samples.now _ _ c.mode_width.ensures (omega arith)
    c.requires

pub put_numbers-requires : goal.put_numbers-requires
put_numbers-requires c =
    let g = grid c.args.axes c.args.all c.args.knots.now in
    let sizes = ends c.args.bytes.now c.args.edition g c.args.samples.now in
    let within = c.requires.within in
    let next =
    axes_end_is c.args.bytes.now c.args.edition g c.args.samples.now _ _ c.mode_width.ensures
    c.put_axes-at.ensures.0 in
    (record { room = omega arith; small = omega arith }, c.requires.finite_samples)

pub overflow_mul-end : goal.overflow_mul-end
overflow_mul-end c =
    let g = grid c.args.axes c.args.all c.args.knots.now in
    let sizes = ends c.args.bytes.now c.args.edition g c.args.samples.now in
    let within = c.requires.within in
    omega arith

pub overflow_add-end : goal.overflow_add-end
overflow_add-end c =
    let g = grid c.args.axes c.args.all c.args.knots.now in
    let sizes = ends c.args.bytes.now c.args.edition g c.args.samples.now in
    let within = c.requires.within in
    let next =
    axes_end_is c.args.bytes.now c.args.edition g c.args.samples.now _ _ c.mode_width.ensures
    c.put_axes-at.ensures.0 in
    omega arith

pub put_field-requires-3 : goal.put_field-requires-3
put_field-requires-3 c =
    let g = grid c.args.axes c.args.all c.args.knots.now in
    let next =
    axes_end_is c.args.bytes.now c.args.edition g c.args.samples.now _ _ c.mode_width.ensures
    c.put_axes-at.ensures.0 in (
      last_within c.args.bytes.now c.args.edition g c.args.samples.now _ _ (omega arith) next
          c.requires.within,
      omega arith,
    )

pub returns : goal.returns
returns c =
    let g = grid c.args.axes c.args.all c.args.knots.now in
    let next =
    axes_end_is c.args.bytes.now c.args.edition g c.args.samples.now _ _ c.mode_width.ensures
    c.put_axes-at.ensures.0 in
    sheet_put c.args.bytes.now c.args.edition g c.args.samples.now _ _ _ _ _ _ _
    c.put_field.ensures
    c.put_field-2.ensures
    next
    (axes_put_is c.args.bytes.now c.args.edition g c.args.samples.now _ _ _ c.mode_width.ensures
    c.put_axes-at.ensures.1)
    c.put_numbers.ensures
    refl
    c.put_field-3.ensures
