-- The four axes, each in use with the mode of its number, are the table that the rules write down.
use Rattle.c_axes.specs.Axes.{axes_in_modes}
use borrow.Author.Rules.{rules}
use Rattle.c_axes.proofs.axes_in_modes.Goals as goal

pub returns : goal.returns
unfolding axes_in_modes
returns c = search rules
