-- 1 and 2 lie within the range of the editions; 0 lies below it, all others above it, and both sides are unknown.
use Rattle.grid_codes.specs.Editions.{unknown_edition}
use borrow.Author.Rules.{rules}
use Rattle.grid_codes.proofs.editions.is_unknown_edition.Goals as goal

pub returns : goal.returns
unfolding unknown_edition
returns c = search rules
