-- The table of the four directions, each by its axis's number.
use Rattle.c_step.specs.Directions.{directions_given}
use borrow.Author.Rules.{rules}
use Rattle.c_step.proofs.directions.directions_given.Goals as goal

pub returns : goal.returns
unfolding directions_given
returns c = search rules
