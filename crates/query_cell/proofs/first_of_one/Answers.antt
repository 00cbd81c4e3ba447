-- One number is blended and stored.
use native.Mathlib.Omega.{arith}
use mathlib.Core.Path.{refl}
use Rattle.query_cell.proofs.first_of_one.Goals as goal

pub one_blended-requires : goal.one_blended-requires
one_blended-requires c = (omega arith, omega arith)

pub returns : goal.returns
returns c = rw c.one_blended.ensures refl
