-- Refusal 13: the lower kind is unknown, or else the upper, or else kind 3 stands at one end only.
use Rattle.grid_codes.specs.Kinds.{kinds_refused}
use borrow.Author.Rules.{rules}
use Rattle.grid_codes.proofs.ends.kinds_refused.Goals as goal

pub returns-then-is_unknown-2 : goal.returns-then-is_unknown-2
unfolding kinds_refused
returns-then-is_unknown-2 c = search rules

pub returns-else-is_unknown-2 : goal.returns-else-is_unknown-2
unfolding kinds_refused
returns-else-is_unknown-2 c = search rules
