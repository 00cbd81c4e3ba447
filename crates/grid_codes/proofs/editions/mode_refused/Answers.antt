-- Refusal 23: in edition 1 the mode's number is compared with 0, which is Extend; any other edition refuses no mode.
use Rattle.grid_codes.specs.Editions.{mode_refused}
use borrow.Author.Rules.{rules}
use Rattle.grid_codes.proofs.editions.mode_refused.Goals as goal

pub returns-then-edition-eq1 : goal.returns-then-edition-eq1
unfolding mode_refused
returns-then-edition-eq1 c = search rules

pub returns-else-edition-eq1 : goal.returns-else-edition-eq1
unfolding mode_refused
returns-else-edition-eq1 c = search rules
