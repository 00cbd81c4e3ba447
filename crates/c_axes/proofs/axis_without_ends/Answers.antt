-- Below the number of axes the entry has the points given, not-a-knot ends and extend; from there on it is the unused axis.
use borrow.Author.Tests.{lt-ltb, le-ltb}
use Rattle.c_axes.specs.Axes.{axis_without_ends}
use Rattle.c_axes.proofs.axis_without_ends.Goals as goal

pub returns-then-i-axes : goal.returns-then-i-axes
unfolding axis_without_ends
returns-then-i-axes c = simp (lt-ltb _ _ c.if-i-axes.true, c.not_a_knot.ensures)

pub returns-else-i-axes : goal.returns-else-i-axes
unfolding axis_without_ends
returns-else-i-axes c = simp (le-ltb _ _ c.if-i-axes.false, c.unused.ensures)
