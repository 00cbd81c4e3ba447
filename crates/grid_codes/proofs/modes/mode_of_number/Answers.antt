-- 1 is Hold and 2 is Refuse; what is neither passes both tests of the rules and is Extend.
use borrow.Author.Tests.{ne_eqb}
use Rattle.grid_codes.specs.Modes.{mode_of_number}
use Rattle.grid_codes.proofs.modes.mode_of_number.Goals as goal

pub returns-in-1 : goal.returns-in-1
unfolding mode_of_number
returns-in-1 c = rw c.in-1.is

pub returns-in-2 : goal.returns-in-2
unfolding mode_of_number
returns-in-2 c = rw c.in-2.is

pub returns-in_default : goal.returns-in_default
unfolding mode_of_number
returns-in_default c = simp (ne_eqb _ _ c.in_default.in_default-own.rest.0.1, ne_eqb _ _ c.in_default.in_default-own.rest.1)
