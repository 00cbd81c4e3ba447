-- Four fields in a row, the points less 1, both kinds and the mode, are put as `with_head` says; each lies in the 12 + `width` bits.
use native.Mathlib.Omega.{arith}
use Rattle.sheet_write.proofs.fields.put_head.Goals as goal

pub put_field-requires : goal.put_field-requires
put_field-requires c =
    let within = c.requires.within in
    let narrow = c.requires.narrow in
    (record { room = omega arith; small = omega arith }, omega arith)

pub put_field-requires-2 : goal.put_field-requires-2
put_field-requires-2 c =
    let within = c.requires.within in
    let narrow = c.requires.narrow in
    (record { room = omega arith; small = omega arith }, omega arith)

pub put_field-requires-3 : goal.put_field-requires-3
put_field-requires-3 c =
    let within = c.requires.within in
    let narrow = c.requires.narrow in
    (record { room = omega arith; small = omega arith }, omega arith)

pub put_field-requires-4 : goal.put_field-requires-4
put_field-requires-4 c =
    let within = c.requires.within in
    let narrow = c.requires.narrow in
    (record { room = omega arith; small = omega arith }, omega arith)

pub returns : goal.returns
returns c =
    rw (
      ← c.put_field.ensures,
      ← c.lower_kind.ensures,
      ← c.wide.ensures,
      ← c.put_field-2.ensures,
      ← c.upper_kind.ensures,
      ← c.wide-2.ensures,
      ← c.put_field-3.ensures,
      ← c.mode_number.ensures,
      ← c.wide-3.ensures,
    )
    c.put_field-4.ensures
