-- Below the number of axes the direction of its number, and Lower for an axis not in use.
use borrow.Author.Tests.{lt-ltb, le-ltb}
use Rattle.c_step.specs.Directions.{direction_given}
use Rattle.c_step.proofs.directions.direction_given.Goals as goal

pub returns-then-i-axes : goal.returns-then-i-axes
unfolding direction_given
returns-then-i-axes c = simp (lt-ltb _ _ c.if-i-axes.true, c.direction_of_number.ensures)

pub returns-else-i-axes : goal.returns-else-i-axes
unfolding direction_given
returns-else-i-axes c = simp (le-ltb _ _ c.if-i-axes.false)
