-- Below the number of axes the entry has the points and the condition given and is in extend; from there on it is the unused axis.
use borrow.Author.Tests.{lt-ltb, le-ltb}
use Rattle.c_axes.specs.Axes.{axis_given}
use Rattle.c_axes.proofs.axis_given.Goals as goal

pub returns-then-i-axes : goal.returns-then-i-axes
unfolding axis_given
returns-then-i-axes c = simp (lt-ltb _ _ c.if-i-axes.true, c.condition_given.ensures)

pub returns-else-i-axes : goal.returns-else-i-axes
unfolding axis_given
returns-else-i-axes c = simp (le-ltb _ _ c.if-i-axes.false, c.unused.ensures)
