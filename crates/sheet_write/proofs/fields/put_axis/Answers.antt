-- Head, numbers of the ends and knots, each from the bit where the one before it ended: the fields of the axis (`axis_put`), for which
-- `axis_bits` counts the room.
use native.Mathlib.Omega.{arith}
use Rattle.sheet_write.proofs.Ends.{ends_bits}
use Rattle.sheet_write.proofs.Lengths.{axis_bits}
use Rattle.sheet_write.proofs.Puts.{axis_put, head_given}
use Rattle.sheet_write.proofs.fields.put_axis.Goals as goal

pub put_head-requires : goal.put_head-requires
put_head-requires c = head_given _ _ _ _ _ c.requires

pub put_ends-next-requires : goal.put_ends-next-requires
put_ends-next-requires c =
    let bits = axis_bits c.args.width c.args.axis c.args.knots.now in
    let ends = ends_bits c.args.axis.condition in
    let within = c.requires.within in
    (c.requires.finite_ends, record { room = omega arith; small = omega arith })

pub put_numbers-requires : goal.put_numbers-requires
put_numbers-requires c =
    let bits = axis_bits c.args.width c.args.axis c.args.knots.now in
    let ends = ends_bits c.args.axis.condition in
    let within = c.requires.within in
    let next = c.put_ends-next.ensures.0 in
    (record { room = omega arith; small = omega arith }, c.requires.finite_knots)

pub overflow_mul-result : goal.overflow_mul-result
overflow_mul-result c =
    let bits = axis_bits c.args.width c.args.axis c.args.knots.now in
    let ends = ends_bits c.args.axis.condition in
    let within = c.requires.within in
    omega arith

pub overflow_add-result : goal.overflow_add-result
overflow_add-result c =
    let bits = axis_bits c.args.width c.args.axis c.args.knots.now in
    let ends = ends_bits c.args.axis.condition in
    let within = c.requires.within in
    let next = c.put_ends-next.ensures.0 in
    omega arith

pub returns : goal.returns
returns c =
    let args = c.args in
    let ends = c.put_ends-next.ensures in
    axis_put args.bytes.now args.at args.width args.axis args.knots.now _ _ _ _ c.put_head.ensures ends.0
    ends.1 c.put_numbers.ensures
