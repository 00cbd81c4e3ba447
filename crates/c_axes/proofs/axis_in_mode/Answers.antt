-- An axis in use keeps its points and condition and takes the mode of its number; one not in use stays as it is.
use borrow.Author.Tests.{lt-ltb, le-ltb}
use Rattle.c_axes.specs.Axes.{axis_in_mode}
use Rattle.c_axes.proofs.axis_in_mode.Goals as goal

pub returns-then-i-axes : goal.returns-then-i-axes
unfolding axis_in_mode
returns-then-i-axes c = simp (lt-ltb _ _ c.if-i-axes.true, c.mode_of_number.ensures, c.wide.ensures)

pub returns-else-i-axes : goal.returns-else-i-axes
unfolding axis_in_mode
returns-else-i-axes c = simp (le-ltb _ _ c.if-i-axes.false)
