-- A run of bits within one byte is one store of the byte with that run replaced (`in_byte`).
use native.Mathlib.Omega.{arith}
use Rattle.base_bits.proofs.Writes.{in_byte}
use Rattle.base_bits.proofs.writing.put_in_byte.Goals as goal

pub returns : goal.returns
returns c = rw (c.patched.ensures, c.lowest.ensures.0) (in_byte _ _ _ _ _ (omega arith) (omega arith))
