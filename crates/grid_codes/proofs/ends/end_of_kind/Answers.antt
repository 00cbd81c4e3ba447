-- Kinds 1 and 2 carry the value, as the first and the second derivative; what is neither passes both tests and is NotAKnot.
use borrow.Author.Tests.{ne_eqb}
use Rattle.grid_codes.specs.Kinds.{end_of_kind}
use Rattle.grid_codes.proofs.ends.end_of_kind.Goals as goal

pub returns-in-1 : goal.returns-in-1
unfolding end_of_kind
returns-in-1 c = rw c.in-1.is

pub returns-in-2 : goal.returns-in-2
unfolding end_of_kind
returns-in-2 c = rw c.in-2.is

pub returns-in_default : goal.returns-in_default
unfolding end_of_kind
returns-in_default c = simp (ne_eqb _ _ c.in_default.in_default-own.rest.0.1, ne_eqb _ _ c.in_default.in_default-own.rest.1)
