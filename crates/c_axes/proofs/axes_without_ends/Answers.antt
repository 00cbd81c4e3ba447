-- The table of the four entries of a call without ends, entry by entry.
use Rattle.c_axes.specs.Axes.{axes_without_ends}
use borrow.Author.Rules.{rules}
use Rattle.c_axes.proofs.axes_without_ends.Goals as goal

pub returns : goal.returns
unfolding axes_without_ends
returns c = search rules
