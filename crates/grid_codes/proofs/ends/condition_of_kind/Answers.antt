-- Kind 3 is Periodic, whatever the two ends are; with any other kind they are the condition.
use borrow.Author.Tests.{ne_eqb}
use Rattle.grid_codes.specs.Kinds.{condition_of_kind}
use Rattle.grid_codes.proofs.ends.condition_of_kind.Goals as goal

pub returns-in-3 : goal.returns-in-3
unfolding condition_of_kind
returns-in-3 c = rw c.in-3.is

pub returns-in_default : goal.returns-in_default
unfolding condition_of_kind
returns-in_default c = simp (ne_eqb _ _ c.in_default.in_default-own.rest.1)
