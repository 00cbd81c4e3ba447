-- Where the lower kind is 3 the upper is another, and where it is another the upper is 3: one arm for each test of the rules.
use borrow.Author.Tests.{ne_eqb}
use Rattle.grid_codes.specs.Kinds.{periodic_at_one_end}
use Rattle.grid_codes.proofs.ends.is_periodic_at_one_end.Goals as goal

pub returns-in-3 : goal.returns-in-3
unfolding periodic_at_one_end
returns-in-3 c = rw c.in-3.is

pub returns-in_default : goal.returns-in_default
unfolding periodic_at_one_end
returns-in_default c = simp (ne_eqb _ _ c.in_default.in_default-own.rest.1)
