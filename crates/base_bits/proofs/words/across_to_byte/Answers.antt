-- The shift leaves room for as many bits as the byte gives (`shifted_room`), so nothing wraps.
use Prim.Native.Nat.{◌-◌}
use native.Mathlib.Omega.{arith}
use Rattle.base_bits.proofs.Shifts.{shifted_room}
use Rattle.base_bits.proofs.words.across_to_byte.Goals as goal

pub overflow_add-result : goal.overflow_add-result
overflow_add-result c =
    let shift = c.args.shift in
    record { fits = shifted_room shift (64 - shift) (omega arith) _ _ c.first_bits.ensures.1 }

pub returns : goal.returns
returns c = rw c.first_bits.ensures.0
