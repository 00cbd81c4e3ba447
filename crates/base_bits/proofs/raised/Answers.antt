-- The shift loses no bit, so it is the product, and below it is room for a number of `count` bits within 64.
use lib.Pow.{shl_exact}
use Rattle.base_bits.proofs.Shifts.{raised_room}
use Rattle.base_bits.proofs.raised.Goals as goal

pub returns : goal.returns
returns c =
    let same = shl_exact _ _ 64 c.requires.0 c.requires.1 in
    (same, rw same (raised_room _ _ _ c.requires.0 c.requires.1))
