-- As many bits of the next word as the shift made room for: their sum does not wrap (`shifted_room`).
use mathlib.Core.Path.{◌≡◌}
use Prim.Native.Nat.{◌+◌, ◌-◌}
use native.Mathlib.Omega.{arith}
use lib.Pow.{shr_lt}
use Rattle.base_bits.proofs.Shifts.{shifted_room}
use Rattle.base_bits.proofs.words.across_words.Goals as goal

pub overflow_add-result : goal.overflow_add-result
overflow_add-result c =
    let shift = c.args.shift in
    let all : shift + (64 - shift) ≡ 64 = omega arith in
    record { fits = shifted_room shift (64 - shift) all _ _ (shr_lt shift (64 - shift) (rw all (omega arith))) }
