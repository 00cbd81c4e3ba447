-- Edition 2 gives two bits, and a number that is not 2 gives none.
use borrow.Author.Tests.{ne_eqb}
use Rattle.grid_codes.specs.Editions.{mode_width}
use Rattle.grid_codes.proofs.editions.mode_width.Goals as goal

pub returns-in-2 : goal.returns-in-2
unfolding mode_width
returns-in-2 c = rw c.in-2.is

pub returns-in_default : goal.returns-in_default
unfolding mode_width
returns-in_default c = simp (ne_eqb _ _ c.in_default.in_default-own.rest.1)
