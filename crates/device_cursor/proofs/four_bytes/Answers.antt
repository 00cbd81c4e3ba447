-- Little-endian: the four bytes times 1, 256, 65,536 and 16,777,216. All four lie within the curve.
use native.Mathlib.Omega.{arith}
use Rattle.device_cursor.specs.DeviceCurve.{four_bytes}
use Rattle.device_cursor.proofs.four_bytes.Goals as goal

pub returns : goal.returns
unfolding four_bytes
returns c = omega (arith, c.from_le_bytes.ensures)
