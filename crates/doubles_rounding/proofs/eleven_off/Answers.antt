-- Half of 2048 and the last kept place decide together: `eleven` is `closest` over 2048 as one sum and one division.
use native.Mathlib.Omega.{arith}
use Rattle.doubles_rounding.proofs.Shifts.{eleven}
use Rattle.doubles_rounding.proofs.eleven_off.Goals as goal

pub returns : goal.returns
returns c = (eleven _, omega arith)
